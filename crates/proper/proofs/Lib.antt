-- The grammar of a box's line, as a lemma: the reports that a box can latch (Latchable), whose bytes are those that the check lets stand (Fields), the first bytes of one too
-- (Filled); lines of them pass (Lines), and what passes is such a line (Parsed), which a box can be brought to send (Reached). So the check tells what a box can send
-- (Proper), and that is what its answer says (Answered).
pub mod Latchable
pub mod Fields
pub mod Filled
pub mod Lines
pub mod Parsed
pub mod Reached
pub mod Proper
pub mod Answered
