-- Document 01, "The dock end": the pages of a list of SVIDs, which both ends share.
pub mod Lists
pub mod Pages
pub mod Words
