-- What the exported functions hand over, as numbers.
pub mod Numbers
