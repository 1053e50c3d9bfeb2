-- What the programs share that drive the laptop end.
pub mod Lending
