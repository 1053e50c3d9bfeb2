-- Document 02, R-1: the catalogue rebuilt from its bytes.
pub mod Putting
pub mod Rebuilding
pub mod Shown
