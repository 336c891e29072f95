-- The reader, heading by heading of the paper: "The reader" (State, Rules, Line, its Parts and Whole reports, and the
-- Telling of answers), "Numbers given back" (Good, Promises), and what the laws count and run (Counts, Runs), lines
-- with bit 7 of bytes turned over (EighthBit), and what is handed out of lines, as sent or with damage (DamagedLines),
-- and a reader that follows a line (Follows).
pub mod State
pub mod Good
pub mod Rules
pub mod Counts
pub mod Line
pub mod Parts
pub mod Whole
pub mod Telling
pub mod Promises
pub mod Runs
pub mod EighthBit
pub mod DamagedLines
pub mod Follows
