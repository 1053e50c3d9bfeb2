-- Document 01, "The dock end", a file for each part.
pub mod Data
pub mod Dock
pub mod Sound
pub mod Step
