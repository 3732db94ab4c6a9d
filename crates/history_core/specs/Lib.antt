pub mod Answers
pub mod Runs
pub mod Recorded
pub mod Plain
pub mod Own
pub mod Merge
pub mod Cursors
