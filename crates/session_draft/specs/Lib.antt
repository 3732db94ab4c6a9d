pub mod Json
pub mod Written
pub mod OpText
pub mod Sections
pub mod Draft
pub mod Answers
