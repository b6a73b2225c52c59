pub mod Runs
pub mod Heap
pub mod Steps
pub mod Rules
pub mod Request
pub mod History
pub mod Demand
