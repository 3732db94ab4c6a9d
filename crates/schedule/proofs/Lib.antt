pub mod Digits
pub mod Decimals
pub mod WordLaws
pub mod Keys
pub mod DrawnPlaces
