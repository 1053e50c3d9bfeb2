-- Laws on the states as numbers, and on what is handed over.
pub mod Accepting
pub mod DockHanding
pub mod DockNumbers
pub mod LaptopHanding
pub mod Laws
pub mod Mending
pub mod Only
pub mod PortNumbers
pub mod PortSame
pub mod ReadingBack
pub mod Refusing
pub mod Reserved
