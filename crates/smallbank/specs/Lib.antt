pub mod Scripts
pub mod Bank
pub mod Total
pub mod TotalLaws
