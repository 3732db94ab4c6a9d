pub mod Answered
pub mod Running
pub mod WithEntry
pub mod Merged
pub mod Walked
pub mod Changes
pub mod Kept
pub mod Callers
