-- What a line tells (Watching), its text in a slice (Turns), how the program ends (Refusals), and examples of its lines (Examples).
pub mod Watching
pub mod Turns
pub mod Refusals
pub mod Examples
