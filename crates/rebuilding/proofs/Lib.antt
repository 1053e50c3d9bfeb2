-- Laws on the catalogue rebuilt from its bytes, a file for each topic.
pub mod Filling
pub mod Holding
pub mod Laws
pub mod Outcomes
pub mod Putting
