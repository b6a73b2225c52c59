pub mod Limits
pub mod Walk
pub mod Occurs
