-- Cells and rows (Commas), rows in a buffer (Lines), the last row (Faults), the table of a piece in front of more (Pieces), and what a block leaves (Turns).
pub mod Commas
pub mod Faults
pub mod Lines
pub mod Pieces
pub mod Turns
