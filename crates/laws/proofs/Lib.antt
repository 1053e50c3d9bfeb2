-- Laws that several chapters cite, a file for each topic.
pub mod Fields
pub mod Lines
pub mod Padded
pub mod Parts
pub mod Rows
pub mod Stores
pub mod Tight
