-- Document 01, "The link and the fair dock of demand 3", and what demand 3 says of it.
pub mod Cases
pub mod Demand
pub mod Editions
pub mod Ends
pub mod Exchanges
pub mod Freedoms
pub mod Joined
pub mod Link
pub mod Needed
pub mod Permits
pub mod Seeing
