-- Laws on a catalogue's bytes, a file for each topic.
pub mod Distinct
pub mod Laws
pub mod Lengths
pub mod Outcomes
pub mod Places
pub mod Records
pub mod Storing
