-- Laws on the answers about modes.
pub mod Storing
