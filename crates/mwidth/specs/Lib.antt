-- What the program writes and tells of a listing (Told, Program), and where it stands (Blocks).
pub mod Told
pub mod Program
pub mod Blocks
