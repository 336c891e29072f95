-- The laws of the check: a word by cases, and that it keeps a check good (Keeps), a log word by word (Logs), and step by step, in pieces (Pieces). Each function gives one
-- answer (Answers), no check that we make is refused (Goodness), each refusal is right (Refusals); wrong answers (Wrong), worked lines (Examples), and what they compute with (Computing).
pub mod Keeps
pub mod Logs
pub mod Pieces
pub mod Answers
pub mod Goodness
pub mod Refusals
pub mod Computing
pub mod Wrong
pub mod Examples
