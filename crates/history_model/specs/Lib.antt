pub mod History
pub mod Legal
pub mod InOrder
pub mod Chain
