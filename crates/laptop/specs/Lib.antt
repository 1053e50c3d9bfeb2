-- Document 01, "The laptop end", a file for each part; `hearing` has what becomes of a message.
pub mod Calls
pub mod Catalogue
pub mod Marks
pub mod State
pub mod Step
