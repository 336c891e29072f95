-- What the functions' proofs share: lines in a slice (Filling), what a word gives (Words), where the program stands (Turns); and a whole
-- recording, report by report (Reports).
pub mod Filling
pub mod Words
pub mod Turns
pub mod Reports
