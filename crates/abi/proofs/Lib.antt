-- What is proved of the exported calls beyond their contracts: Refused and Unique are results; Packed serves their proofs.
pub mod Packed
pub mod Refused
pub mod Unique
