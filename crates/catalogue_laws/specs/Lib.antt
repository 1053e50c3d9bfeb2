-- Document 02, R-1: the limits that a catalogue keeps, and when each number is given, in 02's words.
pub mod Given
pub mod Within
pub mod Words
