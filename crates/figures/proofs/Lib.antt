-- What the proofs share: a law of the reader's promises (Laws).
pub mod Laws
