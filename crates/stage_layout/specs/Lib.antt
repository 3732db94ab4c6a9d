pub mod Shape
pub mod Layout
pub mod Index
pub mod Late
pub mod Regions
pub mod Passes
pub mod Padded
pub mod PlanLaws
