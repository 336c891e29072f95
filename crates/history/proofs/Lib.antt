-- The box as a sender: what is going in it (Carries), its latching and sending (Sending) and host bytes (Hosts), and the bridge from its words to its passages
-- (Bridge); that a box asked only for reports sends sound passages (Asking), that a letter sets one to its format (Setting), and that the
-- answers of the rules are permitted (Permitted). What Slot was (Slots), the sums of a run (Sums), the account of a move (Account). Presses: one step (Showing), every run (Presses), within so many slots (Within), again behind
-- a break (Again), none unmade in a stream mode (Unmade) and ever (Ever), counted (Counts), and one that survives (Survives). A run of which silences were left out (Thinned).
pub mod Carries
pub mod Sending
pub mod Hosts
pub mod Bridge
pub mod Asking
pub mod Setting
pub mod Permitted
pub mod Slots
pub mod Sums
pub mod Account
pub mod Showing
pub mod Presses
pub mod Within
pub mod Again
pub mod Unmade
pub mod Ever
pub mod Survives
pub mod Counts
pub mod Thinned
