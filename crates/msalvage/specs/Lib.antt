-- What the program is to write.
pub mod Program
pub mod Blocks
