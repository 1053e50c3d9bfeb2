-- Lemmas on what a line says, and on digits.
pub mod Text
mod Decimals
