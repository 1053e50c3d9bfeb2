-- The states of both ends as numbers, and what each call makes of the numbers that it is lent.
pub mod CatalogueCall
pub mod CatalogueMending
pub mod CatalogueReading
pub mod Dock
pub mod DockCalls
pub mod LaptopCalls
pub mod Port
pub mod Told
