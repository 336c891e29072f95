-- What is said of a recording (Judging), as it is heard (Hearing), what the program is to write (Program), and what holds of the judge (Blocks).
pub mod Judging
pub mod Hearing
pub mod Program
pub mod Blocks
