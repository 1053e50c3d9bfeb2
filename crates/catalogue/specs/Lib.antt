-- Document 01, "Catalogue bytes".
pub mod Bytes
pub mod Parts
pub mod Records
