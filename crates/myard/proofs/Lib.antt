-- The laws of the program: what is said is the judgement (Said), and where a block and the end leave it (Turns).
pub mod Said
pub mod Turns
