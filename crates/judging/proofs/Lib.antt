-- Laws on the walk over a catalogue's records, a file for each topic.
pub mod Cases
pub mod Entries
pub mod Following
pub mod Noted
pub mod Places
pub mod Tight
pub mod Underway
pub mod Walks
