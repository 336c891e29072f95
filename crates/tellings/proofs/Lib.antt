-- The two halves of a told reader apart (Apart); long reads between the tellings (Calls); the line without its replies
-- (Passed), and where two ways to split it meet (Meeting); demand 3 with replies, as far as the reader goes (Damaged);
-- a line with replies on which all damage shows, without the strays of broken replies (Strays), what is handed out of
-- it (Shown), and that a report which stays whole is (Spared); the replies of a good box (Answering), as it sends them
-- (Sent), read back (There), its runs (Runs), and those in which it is polled (Polled); worked lines (Examples), and
-- what they compute with (Computing).
pub mod Apart
pub mod Calls
pub mod Passed
pub mod Meeting
pub mod Damaged
pub mod Strays
pub mod Shown
pub mod Spared
pub mod Answering
pub mod Runs
pub mod Polled
pub mod Sent
pub mod There
pub mod Computing
pub mod Examples
