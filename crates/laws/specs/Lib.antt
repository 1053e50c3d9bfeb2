-- What several chapters of document 01 share.
pub mod Bounded
pub mod Lent
pub mod Lines
pub mod Padded
pub mod Rows
