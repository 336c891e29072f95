-- The salvage of a recording: its log (Log), as it is read (Hearing), the items of the log (Items), lines to a slice
-- (Writing), the whole (Listing), as it is printed (Walk), what is promised (Promises), and the theorems (Whole).
pub mod Log
pub mod Hearing
pub mod Items
pub mod Writing
pub mod Listing
pub mod Walk
pub mod Promises
pub mod Whole
