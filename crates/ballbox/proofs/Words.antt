-- The words that steps give.
use Prim.Native.Nat.{ℕ, zero, suc, ◌+◌, ◌*◌, ◌≤◌, ◌<◌}
use mathlib.Core.Path.{◌≡◌, refl, sym, ap, subst, ◌∙◌}
use mathlib.Core.Bool.{Bool, true, false, not, ◌&&◌, ◌||◌}
use mathlib.Core.List.{List, [], ◌∷◌, ◌++◌}
use native.Mathlib.Omega.{arith}
use lib.Dec.{eqb, ltb}
use lib.ListN.{take, set, replicate, length-set, length-append}
use lib.Seq.{length-take-le}
use borrow.Author.Tests.{eqb-true, leb-true, le-leb, ltb-true, ltb-false, ne_eqb, not-false}
use Rattle.numbers.proofs.Choices.{both, cases}
use Rattle.numbers.proofs.Tested.{left, holds}
use Rattle.frames.specs.Words.{silence, line_words}
use Rattle.wire.specs.Line.{letter_of, named_by, known}
use Rattle.wire.specs.Table.{bytes_of, bytes_by}
use Rattle.wire.specs.Holds.{accepted, accepted_by}
use Rattle.wire.specs.Reading.{at}
use Rattle.wire.specs.declared.Format.{Format}
use Rattle.wire.specs.declared.Format.TheVariants.{Mm, Microsoft, Absolute, Relative, FiveByte, ThreeByte, Hexadecimal}
use Rattle.wire.specs.declared.Report.{Report}
use Rattle.wire.proofs.Letters.{letter_named}
use Rattle.wire.proofs.Codec.{bytes_below}
use Rattle.ballbox.specs.Box.{fresh_box, mode_o, mode_d, Step, nothing, going_from, Bytes, FiveBytes, with_going, with_memory, dormant}
use Rattle.ballbox.specs.Presses.{hidden}
use Rattle.ballbox.specs.Latching.{taken, latched_report, latched, second_only, with_second, second_latched}
use Rattle.ballbox.specs.Commands.{is_stream, code_of, code_byte, command_of, reply_to, obeyed}
use Rattle.ballbox.specs.Events.{Speaks, on_buttons, on_period, bytes_left, wanted, latching, second_now, with_byte_ready, after, next_byte, sending, dropped, on_host, woken, awake, asleep}
use Rattle.ballbox.specs.Good.{good, good_settings}
use Rattle.ballbox.specs.Promises.{sent_words, above_seven, step_of, FreshPromise, StepPromise}
use Rattle.ballbox.specs.declared.Going.{Going}
use Rattle.ballbox.specs.declared.BallBox.{BallBox}
use Rattle.ballbox.specs.declared.Command.{Command}
use Rattle.ballbox.specs.declared.Command.TheVariants.{SetFormat, SetStream, SetPrompt, AskReport, AskAck, AskCode, AskLetters, AskButtons, Sleep, Ignored}
use Rattle.ballbox.specs.declared.Event.{Event}
use Rattle.ballbox.specs.declared.Event.TheVariants.{Motion, Buttons, Host, Latch, Send, Period}
use Rattle.ballbox.specs.declared.Stepped.{Stepped}
use Rattle.ballbox.proofs.Single.{says}
use Rattle.ballbox.proofs.Letters.{Lettered, named, unnamed, lettered}
use Rattle.ballbox.proofs.Accepting.{latched_accepted, second_accepted}
use Rattle.ballbox.proofs.Obeying.{going_or, obeyed_going}
use Rattle.ballbox.proofs.Parts.{letter_known, mode_known, few, parts, good_shown}

no_word : {X : Type 0} {w : ℕ} {ws : List ℕ} → [] ≡ w ∷ ws → X
no_word e = let z : ◌≡◌ {A = ℕ} 0 1 = cc in absurd (omega arith)

breaks : (n : ℕ) (b : BallBox) (w : ℕ) (ws : List ℕ) → (on_host n b).words ≡ w ∷ ws → bytes_left b ≡ true
unfolding on_host
breaks n b w ws = cases (λ (x : List ℕ). x ≡ w ∷ ws → bytes_left b ≡ true) (bytes_left b) (λ l e. l) (λ l. no_word)

awake_speaks : (b : BallBox) (e : Event) (w : ℕ) (ws : List ℕ) → dormant b ≡ false → (awake b e).words ≡ w ∷ ws → Speaks b e
unfolding awake
awake_speaks b (Motion dx dy) w ws d = no_word
awake_speaks b (Buttons n) w ws d = no_word
awake_speaks b (Host n) w ws d = λ e. (d, breaks n b w ws e)
awake_speaks b Latch w ws d = no_word
awake_speaks b Send w ws d = λ e. tt
awake_speaks b Period w ws d = no_word

asleep_speaks : (b : BallBox) (e : Event) (w : ℕ) (ws : List ℕ) → (asleep b e).words ≡ w ∷ ws → Speaks b e
unfolding asleep
asleep_speaks b (Motion dx dy) w ws = no_word
asleep_speaks b (Buttons n) w ws = no_word
asleep_speaks b (Host n) w ws = no_word
asleep_speaks b Latch w ws = no_word
asleep_speaks b Send w ws = λ e. tt
asleep_speaks b Period w ws = no_word

speaks : (b : BallBox) (e : Event) (w : ℕ) (ws : List ℕ) → (step_of b e).words ≡ w ∷ ws → Speaks b e
unfolding step_of
speaks b e w ws =
    cases Says (not (good b)) (λ g. no_word)
    (λ g. cases Says (above_seven e) (λ l. no_word)
    (λ l. cases Says (dormant b) (λ d. asleep_speaks b e w ws) (λ d. awake_speaks b e w ws d)))
  where
    Says : Step → Type 0
    Says x = x.words ≡ w ∷ ws → Speaks b e

-- "Only" Send, "and Host when it breaks off, give a word; the other steps give none."
pub only_send_and_host : (b : BallBox) (e : Event) (r : Stepped) (w : ℕ) (ws : List ℕ) → StepPromise b e r → sent_words r ≡ w ∷ ws → Speaks b e
only_send_and_host b e r w ws s h = speaks b e w ws (sym (ap (λ (x : Step). x.words) (says b e r s)) ∙ h)

-- bytes, place by place and part by part
bytes_at : (bs : List ℕ) (i : ℕ) → Bytes bs → at i bs < 256
bytes_at [] i h = omega arith
bytes_at (b ∷ bs) zero h = h.0
bytes_at (b ∷ bs) (suc i) h = bytes_at bs i h.1

of_at : (bs : List ℕ) → ((i : ℕ) → at i bs < 256) → Bytes bs
of_at [] h = tt
of_at (b ∷ bs) h = (h 0, of_at bs (λ i. h (suc i)))

bytes_set : (bs : List ℕ) (i v : ℕ) → Bytes bs → v < 256 → Bytes (set bs i v)
bytes_set [] i v h k = tt
bytes_set (b ∷ bs) zero v h k = (k, h.1)
bytes_set (b ∷ bs) (suc i) v h k = (h.0, bytes_set bs i v h.1 k)

bytes_append : (u v : List ℕ) → Bytes u → Bytes v → Bytes (u ++ v)
bytes_append [] v h k = k
bytes_append (b ∷ u) v h k = (h.0, bytes_append u v h.1 k)

bytes_take : (n : ℕ) (bs : List ℕ) → Bytes bs → Bytes (take n bs)
bytes_take zero bs h = tt
bytes_take (suc n) [] h = tt
bytes_take (suc n) (b ∷ bs) h = (h.0, bytes_take n bs h.1)

-- what is going has five
going_five : (bytes : List ℕ) → Bytes bytes → FiveBytes (going_from bytes)
unfolding going_from
going_five bytes h =
    let zeros : List ℕ = replicate 5 0 in
    let b : 0 < 256 = omega arith in
    record {
      count = length-take-le 5 (bytes ++ zeros) (omega (arith, length-append bytes zeros));
      each = bytes_take 5 (bytes ++ zeros) (bytes_append bytes zeros h (b, (b, (b, (b, (b, tt))))));
    }

nothing_five : FiveBytes nothing
nothing_five = let b : 0 < 256 = omega arith in record { count = refl; each = (b, (b, (b, (b, (b, tt))))) }

after_five : (g : Going) → FiveBytes g → FiveBytes (after g)
unfolding after
after_five g h = cases FiveBytes (ltb (g.sent + 1) g.length) (λ e. record { count = h.count; each = h.each }) (λ e. nothing_five)

-- an accepted report's bytes are bytes
report_bytes : (letter : ℕ) (r : Report) → Lettered letter → accepted_by letter r ≡ true → Bytes (bytes_by letter r)
unfolding accepted_by bytes_by
report_bytes letter r (named f e) a = rw (e, letter_named f) (of_at (bytes_of f r) (bytes_below f r (rw (e, letter_named f) at a)))
report_bytes letter r (unnamed e none) a = rw e tt

latched_five : (b : BallBox) → good b ≡ true → FiveBytes (latched b).going
unfolding latched
latched_five b g =
    let f = b.settings.format in
    going_five (bytes_by f (latched_report b)) (report_bytes f (latched_report b) (lettered f) (latched_accepted b (good_shown b g)))

second_five : (b : BallBox) → b.settings.format ≡ letter_of FiveByte → FiveBytes b.going → FiveBytes (second_latched b).going
unfolding second_latched with_second accepted_by named_by
second_five b u h =
    let p = taken b.settings.format b.track in
    let a : accepted FiveByte (second_only p) ≡ true = rw u (second_accepted b.track) in
    let bs = bytes_of FiveByte (second_only p) in
    record {
      count = simp length-set h.count;
      each = bytes_set (set b.going.bytes 3 (at 3 bs)) 4 (at 4 bs) (bytes_set b.going.bytes 3 (at 3 bs) h.each (bytes_below FiveByte (second_only p) a 3)) (bytes_below FiveByte (second_only p) a 4);
    }

pub ready_five : (b : BallBox) → FiveBytes b.going → FiveBytes (with_byte_ready b).going
unfolding with_byte_ready
ready_five b h =
    let u = eqb b.settings.format (letter_of FiveByte) in
    cases (λ (x : BallBox). FiveBytes x.going) (second_now b)
    (λ e. second_five b (eqb-true b.settings.format (letter_of FiveByte) (left u (eqb b.going.sent 3) e)) h)
    (λ e. h)

-- letters are bytes
mode_small : (m : ℕ) → (is_stream m || eqb m mode_d) ≡ true → m < 256
mode_small m h = go (ltb m 256) refl
  where
    go : (t : Bool) → ltb m 256 ≡ t → m < 256
    go true e = ltb-true m 256 e
    go false e =
        let far : (k : ℕ) → k < 256 → eqb m k ≡ false = λ k l. ne_eqb m k (λ q. omega (arith, ltb-false m 256 e)) in
        absurd (holds {b = false} (simp (far 0x4A (omega arith), far 0x4B (omega arith), far 0x4C (omega arith), far 0x52 (omega arith), far 0x4D (omega arith), far 0x51 (omega arith), far 0x4E (omega arith), far mode_o (omega arith), far mode_d (omega arith)) at h))

letter_small : (f : Format) → letter_of f < 256
letter_small Mm = omega arith
letter_small Microsoft = omega arith
letter_small Absolute = omega arith
letter_small Relative = omega arith
letter_small FiveByte = omega arith
letter_small ThreeByte = omega arith
letter_small Hexadecimal = omega arith

code_small : (f : Format) → 0x10 + 2 * code_of f < 256
code_small Mm = omega arith
code_small Microsoft = omega arith
code_small Absolute = omega arith
code_small Relative = omega arith
code_small FiveByte = omega arith
code_small ThreeByte = omega arith
code_small Hexadecimal = omega arith

format_small : (l : ℕ) → Lettered l → known l ≡ true → l < 256
format_small l (named f e) h = rw e (letter_small f)
format_small l (unnamed e none) h = absurd (holds (sym none ∙ h))

code_byte_lem : (l : ℕ) → Lettered l → code_byte l < 256
unfolding code_byte
code_byte_lem l (named f e) = rw (e, letter_named f) (code_small f)
code_byte_lem l (unnamed e none) = rw e (omega arith)

-- so are those of a reply
reply_bytes : (b : BallBox) (c : Command) → good_settings b.settings ≡ true → Bytes (reply_to b c)
reply_bytes b (SetFormat f) s = tt
reply_bytes b (SetStream m) s = tt
reply_bytes b SetPrompt s = tt
reply_bytes b AskReport s = tt
reply_bytes b AskAck s = (omega arith, tt)
reply_bytes b AskCode s = (code_byte_lem b.settings.format (lettered b.settings.format), tt)
reply_bytes b AskLetters s =
    let f = b.settings.format in
    (format_small f (lettered f) (letter_known b.settings s), (mode_small b.settings.mode (mode_known b.settings s), tt))
reply_bytes b AskButtons s = (omega (arith, leb-true b.settings.buttons 7 (few b.settings s)), (omega arith, (omega arith, tt)))
reply_bytes b Sleep s = tt
reply_bytes b Ignored s = tt

left_five : (g : Going) (bytes : List ℕ) → FiveBytes g → Bytes bytes → FiveBytes (going_or g bytes)
left_five g [] h k = h
left_five g (b ∷ bytes) h k = going_five (b ∷ bytes) k

obeyed_five : (c : Command) (b : BallBox) → good_settings b.settings ≡ true → FiveBytes b.going → FiveBytes (obeyed c b).going
obeyed_five c b s h = rw (obeyed_going c b) (left_five b.going (reply_to b c) h (reply_bytes b c s))

-- what a step is to keep and to say
record Sound (a : Step) : Type 0 where
  bytes : FiveBytes a.next.going
  legal : line_words a.words ≡ true

one_legal : (w : ℕ) → w ≤ silence → line_words (w ∷ []) ≡ true
unfolding line_words
one_legal w h = both _ _ (le-leb w silence h) refl

next_sound : (b : BallBox) → FiveBytes b.going → Sound (next_byte b)
unfolding next_byte
next_sound b h =
    record { bytes = after_five b.going h; legal = one_legal _ (omega (arith, bytes_at b.going.bytes b.going.sent h.each)) }

sending_sound : (b : BallBox) → FiveBytes b.going → Sound (sending b)
unfolding sending line_words
sending_sound b h =
    cases Sound (bytes_left b) (λ e. next_sound (with_byte_ready b) (ready_five b h)) (λ e. record { bytes = h; legal = refl })

latching_five : (b : BallBox) → good b ≡ true → FiveBytes b.going → FiveBytes (latching b).going
unfolding latching
latching_five b g h = cases (λ (x : BallBox). FiveBytes x.going) (not (bytes_left b) && wanted b) (λ e. latched_five b g) (λ e. h)

host_sound : (n : ℕ) (b : BallBox) → good b ≡ true → FiveBytes b.going → Sound (on_host n b)
unfolding on_host dropped line_words
host_sound n b g h =
    let c = command_of n in
    let s = (parts b g).settings in
    record {
      bytes = cases (λ (x : BallBox). FiveBytes (obeyed c x).going) (bytes_left b) (λ e. obeyed_five c (with_memory (hidden b.memory) (with_going nothing b)) s nothing_five) (λ e. obeyed_five c b s h);
      legal = cases (λ (words : List ℕ). line_words words ≡ true) (bytes_left b) (λ e. refl) (λ e. refl);
    }

awake_sound : (b : BallBox) (e : Event) → good b ≡ true → FiveBytes b.going → Sound (awake b e)
unfolding awake on_buttons on_period line_words
awake_sound b (Motion dx dy) g h = record { bytes = h; legal = refl }
awake_sound b (Buttons n) g h =
    record { bytes = cases (λ (x : BallBox). FiveBytes x.going) (eqb n b.settings.buttons) (λ e. h) (λ e. h); legal = refl }
awake_sound b (Host n) g h = host_sound n b g h
awake_sound b Latch g h = record { bytes = latching_five b g h; legal = refl }
awake_sound b Send g h = sending_sound b h
awake_sound b Period g h = record { bytes = h; legal = refl }

asleep_sound : (b : BallBox) (e : Event) → FiveBytes b.going → Sound (asleep b e)
unfolding asleep woken line_words
asleep_sound b (Motion dx dy) h = record { bytes = h; legal = refl }
asleep_sound b (Buttons n) h = record { bytes = h; legal = refl }
asleep_sound b (Host n) h = record { bytes = let l : 6 < 256 = omega arith in going_five _ (l, tt); legal = refl }
asleep_sound b Latch h = record { bytes = h; legal = refl }
asleep_sound b Send h = record { bytes = h; legal = refl }
asleep_sound b Period h = record { bytes = h; legal = refl }

step_sound : (b : BallBox) (e : Event) → FiveBytes b.going → Sound (step_of b e)
unfolding step_of line_words
step_sound b e h =
    cases Sound (not (good b)) (λ g. record { bytes = h; legal = refl })
    (λ g. cases Sound (above_seven e) (λ l. record { bytes = h; legal = refl })
    (λ l. cases Sound (dormant b) (λ d. asleep_sound b e h) (λ d. awake_sound b e (not-false (good b) g) h)))

pub fresh_bytes : (b : BallBox) → FreshPromise b → FiveBytes b.going
unfolding fresh_box
fresh_bytes b e = subst (λ (x : BallBox). FiveBytes x.going) (sym e) nothing_five

pub step_bytes : (b : BallBox) (e : Event) (r : Stepped) → StepPromise b e r → FiveBytes b.going → FiveBytes r.next.going
step_bytes b e r s h = subst (λ (a : Stepped). FiveBytes a.next.going) (sym s) (step_sound b e h).bytes

pub words_legal : (b : BallBox) (e : Event) (r : Stepped) → StepPromise b e r → FiveBytes b.going → line_words (sent_words r) ≡ true
words_legal b e r s h = ap (λ (a : Step). line_words a.words) (says b e r s) ∙ (step_sound b e h).legal
