-- Laws on what becomes of a message, a file for each topic.
pub mod Outcomes
pub mod Parts
