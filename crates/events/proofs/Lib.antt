pub mod Bodies
pub mod Sides
pub mod Laws
