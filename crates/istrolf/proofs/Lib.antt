-- The laws of the face: what is packed and unpacked again (RoundTrip), one answer (Answers), wrong answers (Wrong), runs of the
-- C functions as runs of those below (Below), and demand 3 and the press theorem over the C functions (Demand3, Presses).
pub mod RoundTrip
pub mod Answers
pub mod Wrong
pub mod Below
pub mod Demand3
pub mod Presses
