pub mod Words
pub mod Dice
pub mod Drawn
