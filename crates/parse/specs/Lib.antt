-- What a line of the shell's input says.
pub mod Line
