-- The table of a listing (Table, Program), its rows in a buffer (Rows), and where the program stands (Blocks).
pub mod Table
pub mod Program
pub mod Rows
pub mod Blocks
