-- The recording (Recording), how the program ends (Refusals), and small recordings (Examples).
pub mod Recording
pub mod Refusals
pub mod Examples
