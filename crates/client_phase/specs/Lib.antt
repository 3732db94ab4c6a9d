pub mod Shown
pub mod ColdNumbers
pub mod NextAction
pub mod Fits
pub mod Stepped
pub mod Moves
pub mod Laws
