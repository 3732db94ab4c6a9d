pub mod Having
pub mod Filling
pub mod Counting
pub mod Building
pub mod First
