-- What is told of a piece in front of more (Words), and what a block leaves (Turns).
pub mod Turns
pub mod Words
