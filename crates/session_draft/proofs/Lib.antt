pub mod JsonLists
pub mod BytesAsJson
