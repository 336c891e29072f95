-- What a read leaves, and the end.
pub mod Turns
