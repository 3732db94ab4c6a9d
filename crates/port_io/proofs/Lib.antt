pub mod Causes
pub mod Known
pub mod Logs
pub mod Taken
