pub mod LogText
pub mod Records
pub mod Grammar
pub mod Reading
pub mod Told
pub mod Ahead
pub mod Checking
pub mod Laws
