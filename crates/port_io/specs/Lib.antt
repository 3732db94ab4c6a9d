pub mod Calls
pub mod Cause
pub mod InMemory
pub mod LogRack
pub mod ReadAll
pub mod Stream
pub mod WriteAll
