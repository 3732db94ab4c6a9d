pub mod SessionData
pub mod Canonical
pub mod AsWritten
pub mod Typed
pub mod Laws
