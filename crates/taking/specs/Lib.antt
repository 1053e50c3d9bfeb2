-- Document 01, "Taking a page".
pub mod Taking
pub mod Words
