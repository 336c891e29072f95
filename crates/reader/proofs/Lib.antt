-- The laws of the reader: one answer (Permitted), what a refusal leaves (Refusals), Room, how far a long read goes (Bounds), word by word (Steps), good readers
-- stay good (Goodness), Counting, Joining, There and Back, nothing before a silence (Awaiting), Useless, sentences of the paper (Sentences, Nowhere), demand 3's
-- half of the reader (Damaged) with its worked lines (DamagedRuns), lines as they were sent (Followed) with theirs (FollowedRuns), Examples, wrong answers (Wrong);
-- what enters (Entered) and V's eighth bit (EighthBit); what answers count together (Counted); a whole report at the front of a line (WholeReports); the loop of
-- a telling (Tells); damage in any number of places: what is handed out is true where it shows (Shown), what stays whole is handed out (Spared), and what
-- a marked format's first bytes tell (Scars); a reader that follows a line (Follows); and what their proofs and those of the functions share.
pub mod Computing
pub mod Parts
pub mod Numbered
pub mod Entered
pub mod Word
pub mod Keeps
pub mod Counted
pub mod Permitted
pub mod Goodness
pub mod Counting
pub mod Bounds
pub mod Loop
pub mod Tells
pub mod WholeReports
pub mod Refusals
pub mod Joining
pub mod Room
pub mod Steps
pub mod Awaiting
pub mod There
pub mod Back
pub mod Useless
pub mod Sentences
pub mod Nowhere
pub mod Framed
pub mod AsSent
pub mod Lines
pub mod EighthBit
pub mod Handed
pub mod Damaged
pub mod DamagedRuns
pub mod Followed
pub mod FollowedRuns
pub mod Shown
pub mod Spared
pub mod Scars
pub mod Follows
pub mod Examples
pub mod Wrong
