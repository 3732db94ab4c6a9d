pub mod FreeKeys
pub mod FitOps
pub mod DrawnOps
