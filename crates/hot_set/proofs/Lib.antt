pub mod EqualRange
pub mod UseCounts
pub mod Ranked
