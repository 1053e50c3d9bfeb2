-- Demand 3 over a link that may change bit 5.
pub mod Reserved
