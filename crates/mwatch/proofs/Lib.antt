-- What a word tells, and what is told at the end (Looking).
pub mod Looking
