-- Laws on mending, a file for each topic.
pub mod Cases
pub mod Copying
pub mod Counting
pub mod Cutting
pub mod Front
pub mod Fronts
pub mod Growing
pub mod Laws
pub mod Leaving
pub mod Outcomes
pub mod Small
pub mod Within
