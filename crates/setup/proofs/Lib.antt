pub mod Blank
pub mod Grow
pub mod Many
pub mod Init
pub mod Turns
pub mod Cases
