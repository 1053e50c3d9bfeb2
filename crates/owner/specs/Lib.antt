-- Document 01, "Owner's calls".
pub mod Owner
