-- Document 01, "The laptop end": the answers about modes.
pub mod Answers
