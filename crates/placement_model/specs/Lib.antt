pub mod Placements
pub mod FirstOrder
pub mod Laws
