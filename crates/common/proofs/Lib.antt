pub mod Tests
pub mod Lists
pub mod Counts
pub mod Bounds
