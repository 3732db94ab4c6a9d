pub mod Registers
pub mod Flat
pub mod Visits
