pub mod Restoring
pub mod Recovering
