-- The laptop as a whole: every call, what is held, what is well-formed.
pub mod CatalogueGiven
pub mod Editions
pub mod Effects
pub mod Given
pub mod Holding
pub mod Refusing
pub mod Reserved
pub mod WellFormed
