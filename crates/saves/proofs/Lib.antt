-- The laws: what a watch tells over reports (Hearing), what it counts over their numbers (Over, by Counting and
-- Numbers); one answer (Answers) and no wrong one (Wrong); worked runs (Examples) and what they unfold (Computing).
pub mod Hearing
pub mod Over
pub mod Counting
pub mod Numbers
pub mod Answers
pub mod Wrong
pub mod Examples
pub mod Computing
