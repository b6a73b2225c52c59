pub mod Image
pub mod Fit
