-- Laws on the dock's definitions, a file for each topic.
pub mod Decisions
pub mod Kept
pub mod Laws
pub mod Shapes
pub mod Steps
