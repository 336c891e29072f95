-- The yard check says yes exactly where some box can send the words: what a box sends passes it, and every box can send what passes it.
use Prim.Native.Nat.{ℕ}
use mathlib.Core.Path.{◌≡◌, refl, sym, ap, ◌∙◌}
use mathlib.Core.Bool.{Bool, true, false, ◌&&◌}
use mathlib.Core.List.{List, [], ◌∷◌, ◌++◌, append-nil}
use lib.Dec.{eqb}
use lib.IntN.{pos}
use lib.ListN.{length}
use Rattle.numbers.proofs.Tested.{left}
use Rattle.frames.specs.Passages.{nothing}
use Rattle.wire.specs.Line.{letter_of, named_by, known}
use Rattle.wire.specs.Holds.{within}
use Rattle.wire.specs.Messages.{Message, report, reply}
use Rattle.wire.specs.declared.Format.{Format}
use Rattle.wire.specs.declared.Format.TheVariants.{Mm, Microsoft, Absolute, Relative, FiveByte, ThreeByte, Hexadecimal}
use Rattle.ballbox.specs.Box.{Step, zeros, mode_d, dormant}
use Rattle.ballbox.specs.Commands.{command_of, obeyed}
use Rattle.ballbox.specs.Events.{on_host, awake}
use Rattle.ballbox.specs.Latching.{limits, cleared, latched_report}
use Rattle.ballbox.specs.Good.{good}
use Rattle.ballbox.specs.declared.BallBox.{BallBox}
use Rattle.ballbox.specs.declared.Event.TheVariants.{Host}
use Rattle.ballbox.proofs.Single.{says}
use Rattle.ballbox.proofs.Parts.{good_shown}
use Rattle.ballbox.proofs.Latches.{latched_range, taken_range}
use Rattle.ballbox.proofs.Refusals.{ruled}
use Rattle.history.specs.Runs.{answer_to, answers_to}
use Rattle.history.specs.History.{paired_at, is_five, passages_of, going_after}
use Rattle.history.proofs.Sending.{five_is}
use Rattle.history.proofs.Bridge.{run_passages}
use Rattle.history.proofs.Asking.{Lasting, same_format, asked_lasting}
use Rattle.history.proofs.Setting.{set_to}
use Rattle.history.proofs.Permitted.{answer_permitted, answers_permitted}
use Rattle.yard.specs.State.{none_gone}
use Rattle.yard.specs.Log.{sendable}
use Rattle.proper.specs.Sends.{SendsFrom, CanSend, all_handed}
use Rattle.proper.proofs.Latchable.{Latchable, second_limits}
use Rattle.proper.proofs.Lines.{LatchableIn, line_sent}
use Rattle.proper.proofs.Parsed.{parsed}
use Rattle.proper.proofs.Reached.{Reach, then, after_d, d_still, d_breaks, line, at_end, run_asks, run_history}

-- what a box latches can be latched
zero_second : (f : Format) → within (second_limits f) (pos 0) ≡ true
unfolding limits
zero_second Mm = refl
zero_second Microsoft = refl
zero_second Absolute = refl
zero_second Relative = refl
zero_second FiveByte = refl
zero_second ThreeByte = refl
zero_second Hexadecimal = refl

latched_can : (f : Format) (b : BallBox) → good b ≡ true → b.settings.format ≡ letter_of f → Latchable f (latched_report b)
unfolding latched_report
latched_can f b k e =
    let h = latched_range b in
    record { buttons = good_shown b k; x1 = rw (← e) h.0; y1 = rw (← e) h.1; x2 = zero_second f; y2 = zero_second f }

pair_can : (f : Format) (b : BallBox) (n : ℕ) (m : Message) → b.settings.format ≡ letter_of f → LatchableIn f m → LatchableIn f (paired_at b n m)
pair_can f b n (report l) e h = go (is_five l.format && eqb n 3) refl
  where
    go : (t : Bool) → is_five l.format && eqb n 3 ≡ t → LatchableIn f (paired_at b n (report l))
    go true d =
        let u : f ≡ FiveByte = sym h.0 ∙ five_is l.format (left (is_five l.format) (eqb n 3) d) in
        let k = taken_range (letter_of f) b.track in
        let p = h.1 in
        let wide : second_limits f ≡ limits (letter_of f) = rw u in
        rw d (h.0, record { buttons = p.buttons; x1 = p.x1; y1 = p.y1; x2 = rw (wide, e) k.0; y2 = rw (wide, e) k.1 })
    go false d = rw d h
pair_can f b n (reply bytes) e h = absurd h

latchable_lasting : (f : Format) → Lasting f (LatchableIn f)
latchable_lasting f = record { of_latched = λ b g d e. (same_format b f e, latched_can f b g e); of_pair = pair_can f }

-- whatever a good box that is awake sends, once it is set to f and asked only for reports, passes
pub sent_passes : (f : Format) (words : List ℕ) → CanSend f words → sendable (none_gone (letter_of f)) words ≡ length words
sent_passes f words (b, k, d, s) =
    let at = set_to f b s.set k d s.is_set in
    let c = asked_lasting (latchable_lasting f) s.set.next nothing s.events s.asked at tt in
    let e = sym s.given ∙ run_passages s.set.next s.events s.answers at.good at.carries s.run in
    rw e (line_sent f (passages_of s.set.next nothing s.events) (going_after s.set.next nothing s.events) c.0 c.1)

-- a box that is set to a format has counted nothing
set_counter : (f : Format) (b : BallBox) → (awake b (Host (letter_of f))).next.track.counter ≡ zeros
unfolding awake on_host command_of obeyed cleared known named_by
set_counter Mm b = refl
set_counter Microsoft b = refl
set_counter Absolute b = refl
set_counter Relative b = refl
set_counter FiveByte b = refl
set_counter ThreeByte b = refl
set_counter Hexadecimal b = refl

-- every good box that is awake can send what passes, by events whose numbers can be handed in
pub passing_sent : (f : Format) (b : BallBox) (words : List ℕ) → good b ≡ true → dormant b ≡ false → sendable (none_gone (letter_of f)) words ≡ length words → (s : SendsFrom b f words) × (all_handed s.events ≡ true)
passing_sent f b words k d h =
    let p = parsed f words h in
    let set = answer_to b (Host (letter_of f)) in
    let promise = answer_permitted b (Host (letter_of f)) in
    let at = set_to f b set k d promise in
    let z : set.next.track.counter ≡ zeros = ap (λ (a : Step). a.next.track.counter) (says b (Host (letter_of f)) set promise ∙ ruled b (Host (letter_of f)) false k refl d) ∙ set_counter f b in
    let D : Reach f set.next nothing [] nothing =
    record {
      events = Host mode_d ∷ [];
      box = after_d f set.next nothing at.good at.awake at.format z at.carries;
      run = d_breaks f set.next nothing at.good at.awake at.format z at.carries;
      still = d_still f set.next nothing at.good at.awake at.format z at.carries;
    } in
    let l = line f D.box p.passages D.still p.stands in
    let e = at_end f l.box p.going l.still p.goes in
    let all : Reach f set.next nothing (p.passages ++ []) p.going = then D (then l e) in
    let hist = run_history all.run in
    let asks = run_asks all.run in (
      record {
        set = set;
        is_set = promise;
        events = all.events;
        asked = asks.0;
        answers = answers_to set.next all.events;
        run = answers_permitted set.next all.events;
        given =
            run_passages set.next all.events (answers_to set.next all.events) at.good at.carries (answers_permitted set.next all.events)
            ∙ rw (hist.0, hist.1, append-nil) (sym p.as_sent_lem);
      },
      asks.1,
    )
