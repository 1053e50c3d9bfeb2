-- What the front page says of all public calls at once.
pub mod Numbers
