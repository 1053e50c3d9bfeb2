-- Laws on the stretch of one SVID, a file for each topic.
pub mod Contents
pub mod Finding
pub mod Fitting
pub mod Laws
pub mod Placing
