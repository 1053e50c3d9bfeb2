-- Laws on publishing.
pub mod Copying
