pub mod Blocks
pub mod Words
pub mod Apart
pub mod Counts
pub mod Sizes
pub mod Numbers
pub mod Lists
