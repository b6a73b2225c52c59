pub mod Audited
pub mod SetUps
pub mod Unique
pub mod Sound
pub mod Cases
pub mod Useless
