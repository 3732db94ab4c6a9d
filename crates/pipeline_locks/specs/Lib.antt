pub mod Holders
pub mod Entry
