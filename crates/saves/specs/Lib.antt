-- The watch, by its questions: what it is (State), what a report does (Rules), what is promised (Promises); and Parts
-- of a long call.
pub mod State
pub mod Rules
pub mod Promises
pub mod Parts
