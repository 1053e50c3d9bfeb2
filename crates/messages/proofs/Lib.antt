-- Laws on the definitions of specs/, a file for each topic.
pub mod Editions
pub mod Header
pub mod Laws
pub mod Numbers
pub mod Objects
pub mod Refusals
pub mod Requests
pub mod Reserved
pub mod RoundTrip
pub mod Rows
pub mod Rule
pub mod Stores
