pub mod Answer
pub mod Promise
pub mod Files
pub mod Code
