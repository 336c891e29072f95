-- Laws of the reader of listings: the grammar of a line read both ways (Grammar), what the lister writes comes back as
-- it was (AsItWas, Through), what is accepted is printed the same (Again); what is left of a piece, whatever follows
-- (Onward), and a call of any machine over lines (OverLines); calls in whatever pieces, faults told at their line, room
-- and joining (Calls); a listing that is rewritten reads as it did (Across, SameItems), and is exactly the listing of
-- the same items, in any calls (Other, Exact); readers stay good (Goodness); two permitted answers are equal (Answers),
-- wrong answers (Wrong), and what a refusal leaves (Refusals); and what the functions' proofs share.
pub mod Across
pub mod Again
pub mod Answers
pub mod AsItWas
pub mod Calls
pub mod Cuts
pub mod Exact
pub mod Goodness
pub mod Grammar
pub mod Loop
pub mod Onward
pub mod Other
pub mod OverLines
pub mod Refusals
pub mod Rewrites
pub mod SameItems
pub mod Short
pub mod Through
pub mod Values
pub mod Wholes
pub mod Wrong
