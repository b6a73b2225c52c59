pub mod Kit
pub mod Numbers
