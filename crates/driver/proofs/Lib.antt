-- Laws of the driver: a line of more than fifteen bytes is bad (Long); the ticks of an input (Ticks) and those that a run took (Taken), what they write (Whole), in pieces
-- (Pieces) and in calls (Calls); drivers stay good (Keeps, Kept), and with room for the few bytes of a tick (Few) they go on, and after so many bytes they have ended (Nearer); two permitted answers are equal (Answers), wrong answers (Wrong), and what
-- a refusal leaves (Refusals); the recording's words are those of the public box (BoxWords), and the lister finds them (Listed, Tried); and what the functions' proofs share, of lines
-- (Reading), of the loop (Feeds) and of the end (Closing).
pub mod Answers
pub mod BoxWords
pub mod Calls
pub mod Closing
pub mod Feeds
pub mod Few
pub mod Keeps
pub mod Kept
pub mod Listed
pub mod Long
pub mod Nearer
pub mod Pieces
pub mod Reading
pub mod Refusals
pub mod Taken
pub mod Ticks
pub mod Tried
pub mod Whole
pub mod Wrong
