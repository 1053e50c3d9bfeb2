-- Laws on pages, a file for each topic.
pub mod Laws
pub mod Making
pub mod Scanning
pub mod Tight
pub mod Words
