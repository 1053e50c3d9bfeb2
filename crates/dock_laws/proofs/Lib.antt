-- What the dock keeps, a file for each topic.
pub mod Answers
pub mod Editions
pub mod Fates
pub mod Given
pub mod Keeping
pub mod Leads
pub mod Limits
pub mod Loading
pub mod Messages
pub mod Replaced
pub mod Reserved
pub mod Sending
pub mod Sent
pub mod SentAt
pub mod Tight
