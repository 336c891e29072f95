-- Listings read back: the fields of a line (Fields), its item (Items), a line in its place (Steps), the lines of a
-- piece (Pieces, Parts), what is promised (Promises), calls one after the other (Calls), what the whole of a listing
-- says (Whole) and what is written of it at the other width (Other), and what is held of it between reads (Held), with
-- examples.
pub mod Fields
pub mod Items
pub mod Steps
pub mod Pieces
pub mod Rewriting
pub mod Parts
pub mod Promises
pub mod Calls
pub mod Other
pub mod Held
pub mod Whole
pub mod Examples
