-- What a choice leaves out (Left); the earliest choice is the best one, and the only best one (Best); the pieces of a line are its runs and each
-- longest run of bytes left out (Pieces); a walk from left to right that finds both (Walk); and the runs from a
-- place on (Later).
pub mod Left
pub mod Best
pub mod Pieces
pub mod Walk
pub mod Later
