-- The bridge, heading by heading of its request: what is remembered (Remembered), a movement in V reports (Splitting), over many words (Line, its Parts),
-- the good-state rules (Good), what is promised (Promises), and what the theorems speak of (Sums, Sent).
pub mod Remembered
pub mod Splitting
pub mod Good
pub mod Line
pub mod Parts
pub mod Promises
pub mod Sums
pub mod Sent
