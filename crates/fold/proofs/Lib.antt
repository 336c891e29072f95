-- Laws of a machine over a line (Laws), of parts of the line, one behind the other (Parts), of long calls (Calls) and
-- their loops (Loops), and of calls in pieces (Pieces).
pub mod Laws
pub mod Parts
pub mod Calls
pub mod Loops
pub mod Pieces
