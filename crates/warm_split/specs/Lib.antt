pub mod OpSet
pub mod Parts
pub mod Sides
pub mod Joined
pub mod Resolved
pub mod Filled
pub mod Laws
