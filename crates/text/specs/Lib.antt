-- Text by value: how it grows (Growth), numbers (Decimals), where a byte stands (Lengths), and what is promised
-- (Promises).
pub mod Growth
pub mod Decimals
pub mod Lengths
pub mod Promises
