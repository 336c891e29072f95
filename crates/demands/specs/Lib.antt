-- The user's demands as theorems over what the other crates promise (Demand1, Demand2, Demand3, and runs of the box
-- worked out in Worked), the eighth bit of a Microsoft byte (EighthBit, with laws in Turned), presses that outlive a
-- busy line (Presses, worked out in Taps), from the press to the save (Saves, with laws in CarriedPresses, worked out in
-- WorkedSaves, and condition by condition in WorkedNeeds; by a long read and the watch over its numbers, WatchedReads) and where damage shows (DamageShown, worked out in WorkedDamage), silences
-- that are left out (SilencesLeftOut), from the pin to the save, through a tty and the port (Pin, worked out in WorkedPin),
-- latch and send apart (LatchAndSend), what the limit threw away (Excess), the account of a move (Account), the paper's
-- figures (Figures, in the words of Said), the useless programs that are shut out (Strength), the yard check
-- (ProperBox), answers read by name (Replies, worked out in WorkedReplies), from the press to the save where the host
-- polls (PolledSaves, worked out in WorkedPolled), all numbers of refusals in their order (Refusals), and a box to try,
-- through to the listing of its recording (TriedBox, worked out in WorkedBox); and what examples compute with
-- (Computing).
pub mod Demand1
pub mod Demand2
pub mod Demand3
pub mod Turned
pub mod EighthBit
pub mod Presses
pub mod Computing
pub mod Worked
pub mod Taps
pub mod CarriedPresses
pub mod Saves
pub mod WorkedSaves
pub mod WorkedNeeds
pub mod WatchedReads
pub mod DamageShown
pub mod WorkedDamage
pub mod SilencesLeftOut
pub mod Pin
pub mod WorkedPin
pub mod LatchAndSend
pub mod Excess
pub mod Account
pub mod Said
pub mod Figures
pub mod Strength
pub mod ProperBox
pub mod Replies
pub mod WorkedReplies
pub mod PolledSaves
pub mod WorkedPolled
pub mod Refusals
pub mod TriedBox
pub mod WorkedBox
