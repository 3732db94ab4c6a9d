pub mod FullMap
pub mod Steps
