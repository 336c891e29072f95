-- The laws of the bridge: numbers that 32 bits hold (Near), V reports as they are written (Writing), what answers count together (Counted), good bridges stay
-- good (Keeps), and what the proofs of the functions share (Loop).
pub mod Near
pub mod Writing
pub mod Counted
pub mod Keeps
pub mod Loop
pub mod Splits
pub mod Permitted
pub mod Goodness
pub mod Joining
pub mod Refusals
pub mod Sent
pub mod Presses
pub mod Account
pub mod Progress
pub mod ReadBack
pub mod Through
pub mod Room
pub mod Computing
pub mod Examples
pub mod Wrong
