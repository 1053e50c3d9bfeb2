-- Laws on the records of a catalogue, a file for each topic.
pub mod Bodies
pub mod Finding
pub mod Laws
pub mod Tight
