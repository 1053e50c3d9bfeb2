-- The port as a whole: every call, a side's share of a history, its edition, when each number is given, what a refusal leaves, bit 5, what is well-formed.
pub mod Cases
pub mod Editions
pub mod Effects
pub mod Given
pub mod Leaving
pub mod Refusing
pub mod Reserved
pub mod WellFormed
