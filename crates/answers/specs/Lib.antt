-- What the shell answers. Lines is what a reader of the contracts needs first.
pub mod Lines
pub mod Hash
