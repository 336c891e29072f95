-- The laws of a reader that is told of replies: one answer (Permitted), good readers stay good (Goodness), what a
-- refusal leaves (Refusals), every byte is somewhere (Counting), Joining, a stop for room and how far a long read goes
-- (Room), which replies are accepted (Accepted), wrong answers (Wrong) and what they compute with (Computing); and what
-- their proofs and those of the functions share.
pub mod Fronts
pub mod Counted
pub mod Lines
pub mod Word
pub mod Permitted
pub mod Goodness
pub mod Refusals
pub mod Counting
pub mod Joining
pub mod Room
pub mod Accepted
pub mod Computing
pub mod Wrong
