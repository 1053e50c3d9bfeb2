-- Document 01, "The laptop end": what becomes of a message that arrives.
pub mod Answers
pub mod Hearing
pub mod Parts
