pub mod MappedRows
pub mod StoreRows
