-- What a byte or a wait puts on the tape (Lines), and what a turn hands out (Handing).
pub mod Lines
pub mod Handing
