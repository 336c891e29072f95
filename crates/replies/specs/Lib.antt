-- A reader that is told of replies: the reply that is awaited (Replying), what a telling and a word do (Rules), a good
-- one (Good), what is counted (Counts), a long read (Line, and the reply at its front in Fronts), what is promised
-- (Promises), and the bytes that are accepted, written out (Accepted).
pub mod Replying
pub mod Good
pub mod Rules
pub mod Counts
pub mod Line
pub mod Fronts
pub mod Promises
pub mod Accepted
