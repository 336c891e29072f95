-- Laws of the picking: the refusals in their order (Refusals), words that fit their places (Fitting), the loop (Loop), what follows from the promise
-- (Picks), and wrong answers (Wrong).
pub mod Refusals
pub mod Fitting
pub mod Loop
pub mod Picks
pub mod Wrong
