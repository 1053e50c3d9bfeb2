-- Document 02, R-1: the walk over a catalogue's records, and the first fault.
pub mod Cases
pub mod Faults
pub mod Judging
pub mod Noting
pub mod Walking
