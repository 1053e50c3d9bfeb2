-- Document 01, "Message layout" and "Refusal numbers" 1 to 5 and 11, a file for each part; 02, R-5: editions.
pub mod Editions
pub mod Layout
pub mod Reading
pub mod Refusals
pub mod Requests
pub mod Table
pub mod Writing
