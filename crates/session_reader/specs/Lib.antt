pub mod Limits
pub mod Faults
pub mod Built
pub mod FirstPlace
pub mod Rules
pub mod SessionOf
