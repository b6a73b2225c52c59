mod Cases
pub mod Names
pub mod Numbers
pub mod Words
