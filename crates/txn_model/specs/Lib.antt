pub mod Number
pub mod Listed
pub mod Needs
pub mod Tuples
pub mod Places
pub mod Serial
pub mod ScriptCheck
pub mod Local
