-- Document 02, R-1: the stretch of one SVID.
pub mod Shown
pub mod Stretches
