-- The laws of the port (Laws), what it tells of a line (Rightly) and of what comes of a box's words (Arriving), one answer
-- (Answers) and no wrong one (Wrong), worked runs (Examples); and the loop over many bytes (Loop).
pub mod Loop
pub mod Laws
pub mod Rightly
pub mod Arriving
pub mod Answers
pub mod Wrong
pub mod Examples
