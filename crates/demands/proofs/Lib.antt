-- The front page, how tight the promises are, that what is held is written and reads as what was held, and that 4 is never given.
pub mod Demands
pub mod HeldWithin
pub mod LaptopTight
pub mod NeverFour
pub mod PartsTight
pub mod PortTight
pub mod ResultsTight
pub mod Written
