-- The laws that everything else cites, each once.
pub mod Tested
pub mod Choices
pub mod Rows
pub mod Twos
pub mod Machine
pub mod Held
pub mod Sums
pub mod Ones
