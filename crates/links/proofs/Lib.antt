-- Demand 3 for each side, a file for each topic.
pub mod Faithful
pub mod Lifting
pub mod OnSides
pub mod Shares
pub mod ToRest
