-- Answers of one line.
pub mod Line
