-- The dock as a whole: every call, and when it is refused.
pub mod Editions
pub mod Effects
pub mod Given
pub mod Reserved
