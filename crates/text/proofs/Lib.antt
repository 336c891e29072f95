-- Laws of texts, of decimals and of where a byte stands (Lengths), one answer for every argument, and wrong answers
-- (Wrong).
pub mod Laws
pub mod Filled
pub mod Digits
pub mod Lengths
pub mod Answers
pub mod Wrong
