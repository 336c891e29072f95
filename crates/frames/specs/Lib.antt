-- The line, whatever stands on it: its words (Words), passages of any kind of report (Passages), whatever sends them (Sender), a line told in another kind's
-- reports (Retold), a reader of framed reports (Frame), and damage in any number of places (Damage).
pub mod Words
pub mod Passages
pub mod Sender
pub mod Frame
pub mod Retold
pub mod Damage
