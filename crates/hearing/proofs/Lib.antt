-- A machine that hears bytes (Steps), and the turns of a session (Turns).
pub mod Steps
pub mod Turns
