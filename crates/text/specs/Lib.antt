-- What a line says.
pub mod Said
pub mod Text
