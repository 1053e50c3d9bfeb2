-- Document 02, R-4: the two sides of the laptop end.
pub mod Calls
pub mod Sides
pub mod Step
