-- What the exported calls promise, in numbers. Promise is what a reader of the contracts needs first.
pub mod Answer
pub mod Promise
pub mod Record
pub mod Word
