-- Document 01, "The laptop end": when a candidate is published, and how.
pub mod Publishing
