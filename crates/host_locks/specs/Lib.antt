pub mod Conflict
pub mod Words
pub mod Locks
