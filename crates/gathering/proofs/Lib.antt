-- Laws on gathering the list.
pub mod Listing
