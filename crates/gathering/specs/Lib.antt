-- Document 01, "The laptop end": the answers that gather the list.
pub mod Gathering
