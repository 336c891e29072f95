-- The user's demands of the VSXXX puck and its reader (Demand1, Demand2, Demand3), that it follows the box (Follows),
-- runs worked out (Worked, with what they compute by, Computing), presses that outlive a busy line (Presses), and the
-- whole account of a move (Account); damage in any number of places, and no press that was not made (Saves, with runs
-- worked out in WorkedSaves, condition by condition in WorkedNeeds).
pub mod Demand1
pub mod Demand2
pub mod Demand3
pub mod Computing
pub mod Follows
pub mod Worked
pub mod Presses
pub mod Account
pub mod Saves
pub mod WorkedSaves
pub mod WorkedNeeds
