pub mod Layout
pub mod Pages
pub mod Sound
pub mod State
pub mod Steps
