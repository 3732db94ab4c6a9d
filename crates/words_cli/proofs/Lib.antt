pub mod Looks
pub mod Texts
pub mod Told
pub mod Rules
pub mod Numbers
pub mod Walks
pub mod Lines
pub mod Parsed
