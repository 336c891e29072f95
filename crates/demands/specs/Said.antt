-- What a figure says of a public function: whatever answer its promise permits, it is this one.
use Rattle.std.specs.Prelude.{ℕ, ◌-◌, ◌≤◌, ◌≡◌, true, false, List, [], ◌∷◌, ◌++◌, length, drop, replicate, Ok}
use Rattle.std.proofs.Common.{sym, ◌∙◌, ap}
use Rattle.wire.specs.Line.{letter_of}
use Rattle.wire.specs.Table.{bytes_of}
use Rattle.wire.specs.Holds.{unheld, holds, accepted}
use Rattle.wire.specs.Encoder.{Encoding, refusal_of, unheld_number, Encoded}
use Rattle.wire.specs.Promises.{EncodePromise}
use Rattle.wire.specs.declared.Report.{Report}
use Rattle.wire.specs.declared.Format.{Format}
use Rattle.wire.proofs.Answers.{accepted_written, movement_refused}
use Rattle.wire.proofs.Codec.{bytes_length}
use Rattle.reader.specs.State.{ready, Read}
use Rattle.reader.specs.Runs.{StepsPromise, steps_of, answers}
use Rattle.reader.specs.declared.Answer.{Answer}
use Rattle.reader.specs.declared.Answer.TheVariants as answer
use Rattle.reader.proofs.Permitted.{steps_are}

-- the encoder, into any buffer with room, writes these bytes at the front and nothing after them, and tells how many
pub record Encodes (f : Format) (r : Report) (bytes : List ℕ) : Type 0 where
  pub written : (before after : List ℕ) (a : Encoded)
      → length bytes ≤ length before
      → EncodePromise (letter_of f) r before a after
      → (a ≡ Ok (length bytes)) × (after ≡ bytes ++ drop (length bytes) before)

-- the encoder, into any buffer, refuses with this number and writes nothing
pub record Refuses (f : Format) (r : Report) (number : ℕ) : Type 0 where
  pub refused : (before after : List ℕ) (a : Encoded)
      → EncodePromise (letter_of f) r before a after
      → (refusal_of a ≡ number) × (after ≡ before)

-- a ready reader, given these bytes one by one, answers nothing up to the last, and the last by this report
abbrev pub read_as : List ℕ → Report → List Answer
read_as bytes r = replicate (length bytes - 1) answer.Nothing ++ (answer.Report r ∷ [])

pub record Reads (f : Format) (bytes : List ℕ) (r : Report) : Type 0 where
  pub answered : (steps : List Read)
      → StepsPromise (ready (letter_of f)) bytes steps
      → answers steps ≡ read_as bytes r

-- so for an accepted report with these bytes, for one whose movement is not held, and for these answers of the rules
pub encodes : {f : Format} {r : Report} {bytes : List ℕ}
    → accepted f r ≡ true
    → bytes_of f r ≡ bytes
    → Encodes f r bytes
encodes {f} {r} e same =
    let size = sym (bytes_length f r) ∙ ap length same in
    record { written = λ before after a h p. rw (size, same) at (accepted_written f r before after a e (rw size h) p) }

pub refuses : {f : Format} {r : Report}
    → r.buttons ≤ 7
    → holds f r ≡ false
    → Refuses f r (unheld_number (unheld f r))
refuses {f} {r} h e =
    record {
      refused = λ before after a p. let s = movement_refused f r before after a h e p in (
        ap (λ (x : Encoding). x.refusal) s,
        ap (λ (x : Encoding). x.buffer) s,
      );
    }

pub reads : {f : Format} {bytes : List ℕ} {r : Report}
    → answers (steps_of (ready (letter_of f)) bytes) ≡ read_as bytes r
    → Reads f bytes r
reads {f} {bytes} e = record { answered = λ steps p. rw (steps_are (ready (letter_of f)) bytes steps p) e }
