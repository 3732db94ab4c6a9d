pub mod Times
pub mod Load
