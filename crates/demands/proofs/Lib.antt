-- The two theorems of Strength that rest on worked runs.
pub mod Refusing
