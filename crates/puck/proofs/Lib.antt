-- The laws of the device: its one answer (Answers), its refusals and else its rules (Refusals), good devices (Goodness, part by part in Parts), the rules as sentences
-- (Sentences) and wrong answers (Wrong).
pub mod Single
pub mod Answers
pub mod Parts
pub mod Goodness
pub mod Refusals
pub mod Sentences
pub mod Wrong
