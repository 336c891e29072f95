-- Passages in two parts (Passages); the words of a sender are those of its passages (Sender); what a reader hands out: over words, over the bytes
-- of reports (Reading), in a marked format after any words (Marks), in an unmarked one up to a silence (Waiting), and over a line of which a stretch was
-- replaced (Replaced); what holds of each word of a line (Words), and a line told in another kind's reports (Retold). What is left of a list (Sub), and a reader
-- over a line on which all damage shows (InStep), or of which any words were lost (Scars). A line of which silences were left out (Fewer).
pub mod Sub
pub mod Passages
pub mod Sender
pub mod Reading
pub mod Marks
pub mod Waiting
pub mod Replaced
pub mod Words
pub mod Retold
pub mod InStep
pub mod Scars
pub mod Fewer
