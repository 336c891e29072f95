-- Laws of the salvage: the log as it is read (Hearing), lines in a slice (Writing), runs at a place (Runs), the
-- walk through the words (Walking), the whole (Whole), that so many bytes decide (Settles), that it comes back through the reader of listings (ComesBack),
-- and wrong answers (Wrong).
pub mod Hearing
pub mod Writing
pub mod Runs
pub mod Walking
pub mod Sound
pub mod Room
pub mod Whole
pub mod Settles
pub mod ComesBack
pub mod Wrong
