pub mod Flight
pub mod Switch
pub mod Event
pub mod Fitting
pub mod Reached
pub mod Executed
pub mod Order
pub mod Laws
