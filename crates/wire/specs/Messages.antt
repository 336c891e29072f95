-- What a box sends: reports, as they were latched, and replies.
use Rattle.std.specs.Prelude.{ℕ, ◌≡◌, Bool, true, false, List, [], ◌∷◌}
use Rattle.frames.specs.Passages.{Passage, UnderWay, finished_by, Sound, SoundPart}
use Rattle.wire.specs.Table.{bytes_of}
use Rattle.wire.specs.Holds.{accepted, carried}
use Rattle.wire.specs.declared.Report.{Report}
use Rattle.wire.specs.declared.Format.{Format}

-- a report as it was latched, in the format that was set, and whether it was latched to show a remembered state of the buttons
pub record Latched : Type 0 where
  pub format : Format
  pub report : Report
  pub shows : Bool

pub data Message : Type 0 where
  report : Latched → Message
  reply : List ℕ → Message

-- a report that shows the present buttons, and one that shows a remembered state
abbrev pub latched_in : Format → Report → Message
latched_in f r = report (record { format = f; report = r; shows = false })

abbrev pub showing_in : Format → Report → Message
showing_in f r = report (record { format = f; report = r; shows = true })

-- "each report has the manual's bytes"
abbrev pub message_bytes : Message → List ℕ
message_bytes (report l) = bytes_of l.format l.report
message_bytes (reply bytes) = bytes

-- a report that the format f holds
abbrev pub HeldBy : Format → Message → Type 0
HeldBy f (report l) = (l.format ≡ f) × (accepted f l.report ≡ true)
HeldBy f (reply bytes) = ⊥

-- a report as the format carries it
abbrev pub carried_in : Format → Message → List Report
carried_in f (report l) = carried f l.report ∷ []
carried_in f (reply bytes) = []

-- passages of the format f, and what is under way behind them: silences and reports that f holds, no replies
abbrev pub SoundIn : Format → List (Passage Message) → Type 0
SoundIn f passages = Sound message_bytes (HeldBy f) passages

abbrev pub SoundEnd : Format → UnderWay Message → Type 0
SoundEnd f going = SoundPart message_bytes (HeldBy f) going

-- the finished reports of passages, in the order sent, each as the format carries it
abbrev pub finished_reports : Format → List (Passage Message) → List Report
finished_reports f passages = finished_by (carried_in f) passages
