-- The port: what a byte, a wait and a loss do (Marks), many bytes (Line), the promises (Promises); what a tty hands over
-- (Delivered), a port at work (Sessions), a line and the program that hears it (Hearing), and what comes of a box's words
-- (Arriving).
pub mod Marks
pub mod Line
pub mod Delivered
pub mod Sessions
pub mod Hearing
pub mod Arriving
pub mod Promises
