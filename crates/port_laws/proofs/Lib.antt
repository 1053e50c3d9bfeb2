-- What the two sides keep from each other, a file for each topic.
pub mod Cases
pub mod Editions
pub mod Given
pub mod Isolation
pub mod Keeping
pub mod OneCall
pub mod Refusing
pub mod Reserved
pub mod Seeing
pub mod Sides
