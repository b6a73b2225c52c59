pub mod Fields
pub mod Rows
pub mod Laws
pub mod OrderLaws
pub mod PlaceLaws
pub mod Cases
pub mod RawLaws
