-- A run of the box (Runs), its history (History), what is going in a box (Carried), a box that is asked only for
-- reports (Asked), presses in a run (Presses), what Slot was (Slots), what the limits threw away (Sums), the whole
-- account of a move (Account), and a run of which silences were left out (Thinned).
pub mod Runs
pub mod History
pub mod Carried
pub mod Asked
pub mod Presses
pub mod Slots
pub mod Sums
pub mod Account
pub mod Thinned
