pub mod Info
pub mod Said
pub mod Meaning
pub mod Fill
