-- Laws on the laptop's definitions, a file for each topic.
pub mod Marking
pub mod Numbers
pub mod Steps
