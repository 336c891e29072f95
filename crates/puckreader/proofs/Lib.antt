-- The laws of the reader of the VSXXX: what it keeps (Kept), what a word does (Word), what is counted (Counting), the
-- long read's loop (Loop), its one answer (Permitted), good readers (Goodness), refusals (Refusals), long reads joined
-- (Joining) and where they stop (Room), what the reader of the frame does (Framed), there and back (There), what is
-- handed out of a line (Handed), what a step and a long read count (Counts) and wrong answers (Wrong). Damage in any
-- number of places: damage that shows (Shown), and words lost wherever they stood (Scars).
pub mod Kept
pub mod Word
pub mod Counting
pub mod Loop
pub mod Permitted
pub mod Goodness
pub mod Refusals
pub mod Joining
pub mod Framed
pub mod Handed
pub mod There
pub mod Counts
pub mod Room
pub mod Wrong
pub mod Shown
pub mod Scars
