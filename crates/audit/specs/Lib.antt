pub mod Decides
pub mod Check
pub mod Counts
pub mod Survey
pub mod Cases
