-- Document 01, "Catalogue bytes", and 02, R-1: one record among bytes.
pub mod Records
pub mod Refused
pub mod Shown
