-- Separate runs picked from a line of words, and which choice is best (Choice); the choice that is made (Earliest); and what the line falls into (Pieces).
pub mod Choice
pub mod Earliest
pub mod Pieces
