-- The yard check: which bytes a box can send (Stands), what a check is (State) and a good one (Good), what a word does (Rules) and a whole log (Log), and
-- what the functions promise (Promises); and a log in pieces (Pieces).
pub mod Stands
pub mod State
pub mod Good
pub mod Rules
pub mod Log
pub mod Promises
pub mod Pieces
