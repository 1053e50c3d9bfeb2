-- Laws on taking a page, a file for each topic.
pub mod Gathering
pub mod Growing
pub mod Judging
pub mod Sizes
pub mod Tight
pub mod Words
