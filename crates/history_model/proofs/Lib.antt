pub mod ChainLaws
pub mod InsertionLaws
pub mod Insertion
