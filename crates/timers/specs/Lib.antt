-- Document 01, "The laptop end": timers.
pub mod Timers
