-- The words of a run of the device are the words of its passages, which are sound (Bridge); out of a self-test, without
-- T, it is a run of its box (AsBox), to which nothing is handed that empties its memory (Presses); and the account of a
-- move, and the sums since T (Account). Its movement reports show no more presses than were made (Ever), a press in
-- them survives (Survives), and they show just as many where nothing is emptied or replaced (Counts). The answers that
-- the rules give are permitted (Permitted).
pub mod Bridge
pub mod AsBox
pub mod Presses
pub mod Account
pub mod Ever
pub mod Permitted
pub mod Survives
pub mod Counts
