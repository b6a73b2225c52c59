pub mod Word
pub mod RawFields
pub mod Order
pub mod Place
pub mod Cases
