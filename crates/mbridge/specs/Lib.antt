-- What the program writes (Lines, Recording, Program), and where it stands (Blocks).
pub mod Lines
pub mod Recording
pub mod Program
pub mod Blocks
