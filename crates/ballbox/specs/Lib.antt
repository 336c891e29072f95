-- The ball box, heading by heading of the papers: "The box, event by event" (Box, Motion, Latching, Commands, Events), "Presses that outlive a
-- busy line" (Presses), "Show what the limit threw away" (Thrown, Excesses), "Good box" (Good), and what the functions promise (Promises).
pub mod Marks
pub mod Presses
pub mod Thrown
pub mod Box
pub mod Motion
pub mod Latching
pub mod Commands
pub mod Events
pub mod Numbers
pub mod Good
pub mod Promises
pub mod Excesses
