pub mod Words
pub mod Forms
pub mod Numbers
pub mod Loads
pub mod Table
pub mod Ranges
pub mod Answers
pub mod ClapLine
