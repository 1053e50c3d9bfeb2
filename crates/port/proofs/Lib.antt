-- Laws on the two sides, a file for each topic.
pub mod Calling
pub mod Seeing
