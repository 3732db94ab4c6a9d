pub mod Places
pub mod Raced
