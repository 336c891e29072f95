-- The laws of standing, and of bytes that are held between reads.
pub mod Held
pub mod Laws
