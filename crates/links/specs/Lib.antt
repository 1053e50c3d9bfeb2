-- Document 02, R-4: demand 3 for each side.
pub mod Joint
pub mod Share
