-- A machine over a line of words, and a part of the line that it took (Fold); a long call (Calls); calls in pieces
-- (Pieces).
pub mod Fold
pub mod Calls
pub mod Pieces
