-- The laws of the seven formats (Codec), their letters (Letters) and digits (LookUp), the movement that is not held (Faults), the encoder (Accepts), what
-- follows from the promises (Answers, Refusals, Movements, Wrong), presses (Buttons), and what the functions' proofs share.
pub mod Numbered
pub mod Answers
pub mod Refusals
pub mod Movements
pub mod Wrong
pub mod Codec
pub mod Accepts
pub mod Faults
pub mod LookUp
pub mod Fields
pub mod FixedBits
pub mod Front
pub mod Letters
pub mod Sums
pub mod Buttons
