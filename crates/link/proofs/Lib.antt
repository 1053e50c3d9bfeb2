-- What the definitions compute.
pub mod Cases
pub mod Freedoms
