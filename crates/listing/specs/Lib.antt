-- The listing: the input's lines (Lines) to numbered words (Scanning), words to items (Items), items to bytes
-- (Printing), the three in a row (Listing); and the lister, byte by byte (Feeding) or some lines at a time (Batches,
-- Stamped), with what is promised of it (Promises) and its calls one after the other (Calls).
pub mod Lines
pub mod Scanning
pub mod Items
pub mod Printing
pub mod Listing
pub mod Feeding
pub mod Stamped
pub mod Batches
pub mod Promises
pub mod Calls
pub mod Examples
