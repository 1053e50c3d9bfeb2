-- Laws on a reading as numbers.
pub mod Laws
