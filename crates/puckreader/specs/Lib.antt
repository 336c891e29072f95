-- The reader of the VSXXX: what it holds and answers (State), what a word does (Rules), a good reader (Good), a line of
-- words (Line), what its functions promise (Promises), its steps one after the other (Runs), and what is handed out of
-- a line (HandedOut).
pub mod State
pub mod Rules
pub mod Good
pub mod Line
pub mod Promises
pub mod Runs
pub mod HandedOut
