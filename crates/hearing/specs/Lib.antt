-- How a program that listens is called (Called), whether the line is gone (Clock), what was heard as events of the port (Events), a machine that
-- hears it (Steps), its turns (Turns), and what such a program says (Words).
pub mod Called
pub mod Clock
pub mod Events
pub mod Steps
pub mod Turns
pub mod Words
