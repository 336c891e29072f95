-- Laws of the listing: what is scanned is the recording (Scanned), and the text is that of the definitions (Whole), whatever the cuts (Pieces, Calls), with
-- calls worked out (Worked); its items go up line by line to an end (Ordered); listers stay good (Keeps) and end (Ended); two permitted answers are equal (Answers), wrong answers (Wrong), and what a refusal
-- leaves (Refusals); and what the functions' proofs share.
pub mod Answers
pub mod Bytes
pub mod Calls
pub mod Carried
pub mod Ended
pub mod Feeds
pub mod Few
pub mod Five
pub mod Fronts
pub mod Grown
pub mod Keeps
pub mod Long
pub mod Ordered
pub mod Parse
pub mod Pieces
pub mod Quiet
pub mod Refusals
pub mod Scanned
pub mod Several
pub mod Small
pub mod Telling
pub mod Viewed
pub mod Whole
pub mod Widths
pub mod Worked
pub mod Wrong
