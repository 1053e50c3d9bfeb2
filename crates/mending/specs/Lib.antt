-- Document 02, R-6: a damaged catalogue file mended.
pub mod Beginning
pub mod Cases
pub mod Keeping
pub mod Mending
pub mod Shown
pub mod Words
