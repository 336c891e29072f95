-- The laws of the ball box: its one answer (Answers), the refusals and else the rules (Refusals), good boxes
-- (Goodness), the words (Words), what moved means (Moving), what is latched (Latches), the host's bytes (Obeying), what
-- is remembered (Pressing), what the limits throw away (Throwing), the dormant box (Dormancy) and wrong answers
-- (Wrong). What these and the functions' proofs share: the letters (Letters), that what is latched is accepted
-- (Accepting), what is going (Outgoing), what is remembered (Remembering, Beside), a good box part by part (Parts), and
-- latching, sending and breaking off case by case (Cases), marks (Marks), and the test of a good box by numbers (Joined).
mod Joined
pub mod Marks
pub mod Single
pub mod Letters
pub mod Remembering
pub mod Accepting
pub mod Outgoing
pub mod Beside
pub mod Parts
pub mod Cases
pub mod Goodness
pub mod Answers
pub mod Refusals
pub mod Moving
pub mod Latches
pub mod Obeying
pub mod Throwing
pub mod Words
pub mod Pressing
pub mod Dormancy
pub mod Wrong
