pub mod Uses
pub mod Hottest
