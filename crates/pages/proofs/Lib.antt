pub mod Patterns
pub mod Fill
