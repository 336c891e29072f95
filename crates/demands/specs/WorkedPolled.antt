-- From the press to the save where the host polls, worked out: in T with a reply that is damaged, and, for what
-- ShownItems leaves out, with one that loses a byte without a trace and one into which a silence comes; and in S a tap
-- that is saved once.
use Rattle.std.specs.Prelude.{ℕ, ◌≡◌, refl, false, List, [], ◌∷◌, ◌++◌, pos}
use Rattle.std.proofs.Common.{ap, arith}
use Rattle.numbers.specs.Signed.{minus}
use Rattle.frames.specs.Passages.{Passage, silent, finished, broken}
use Rattle.wire.specs.Line.{letter_of}
use Rattle.wire.specs.Reading.{report}
use Rattle.wire.specs.Messages.{Message, reply, latched_in, showing_in}
use Rattle.wire.specs.Buttons.{middle, is_down, presses, presses_from}
use Rattle.wire.specs.declared.Report.{Report}
use Rattle.wire.specs.declared.Format.{Format}
use Rattle.wire.specs.declared.Format.TheVariants.{Mm, Microsoft, ThreeByte}
use Rattle.reader.specs.Counts.{handed_out}
use Rattle.ballbox.specs.Box.{fresh_box, mode_o, mode_d}
use Rattle.ballbox.specs.Commands.{space, lettert, letter_p, byte05}
use Rattle.ballbox.specs.declared.BallBox.{BallBox}
use Rattle.ballbox.specs.declared.Event.{Event}
use Rattle.ballbox.specs.declared.Event.TheVariants.{Motion, Buttons, Host, Send}
use Rattle.history.specs.Presses.{buttons_told, box_after}
use Rattle.replies.specs.Replying.{came, none}
use Rattle.replies.specs.Promises.{NewToldReader, FreshPromise, fresh_of}
use Rattle.replies.specs.declared.Asked.TheVariants.{Command}
use Rattle.replies.specs.declared.Reply.TheVariants as told
use Rattle.tellings.specs.Items.{Item, word, telling, as_items, Done, ItemsPromise, own_answers_of}
use Rattle.tellings.specs.Lines.{HandsOut, HandsOutAt}
use Rattle.tellings.specs.Damage.{ShownItems, whole, stays, scar, marked, since, TrueOf}
use Rattle.tellings.proofs.Apart.{done_of}
use Rattle.tellings.proofs.Computing as replies
use Rattle.saves.specs.State.{watching}
use Rattle.saves.specs.Promises.{HeardAll, times_down}
use Rattle.saves.specs.declared.Told.{Told}
use Rattle.demands.specs.Computing.{computing}
use Rattle.demands.specs.Demand3.{from_then_on}
use Rattle.demands.specs.Worked.{slots}
use Rattle.demands.specs.Taps.{box_in}
use Rattle.demands.specs.WorkedNeeds.{words_of, taps, too_many}
use Rattle.demands.specs.WorkedReplies.{SendsItems, run_of, Hears, hears}
use Rattle.demands.specs.Saves.{carries_middle}
use Rattle.demands.specs.PolledSaves.{handed_out_lem, true_where_damage_shows, stays_behind_a_silence, as_many_saves}

-- T, with no button down at any time: a silence, 05H and its reply, two reports, a silence, and a third
abbrev far : Report
far = report 0 (pos 2) (minus 24)

abbrev near : Report
near = report 0 (pos 1) (pos 0)

abbrev polling : List Event
polling = Send ∷ Host byte05 ∷ slots 3 (Motion (pos 2) (minus 24) ∷ slots 3 (Motion (pos 1) (pos 0) ∷ slots 4 (Motion (pos 1) (pos 0) ∷ slots 3 [])))

abbrev moves : List ℕ
moves = 0x00 ∷ 0x02 ∷ 0xE8 ∷ 0x00 ∷ 0x01 ∷ 0x00 ∷ []

abbrev third : List ℕ
third = 0x00 ∷ 0x01 ∷ 0x00 ∷ []

-- the items of such a line, by the words that come of the reply
abbrev heard_with : List ℕ → List Item
heard_with bytes = word 257 ∷ telling (Command byte05) ∷ as_items bytes ++ (as_items moves ++ (word 257 ∷ as_items third))

abbrev ahead : List (Passage Message)
ahead = silent ∷ finished (reply (0x00 ∷ 0x00 ∷ 0x00 ∷ [])) ∷ finished (latched_in ThreeByte far) ∷ finished (latched_in ThreeByte near) ∷ []

pub in_t : SendsItems ThreeByte polling (heard_with (0x00 ∷ 0x00 ∷ 0x00 ∷ [])) (ahead ++ (silent ∷ finished (latched_in ThreeByte near) ∷ []))
unfolding computing replies.computing
in_t = record { asked = refl; line = refl; is = refl; ends = refl }

-- as it was sent, all three are handed out behind the first silence
pub handed_in_t : HandsOut ThreeByte (heard_with (0x00 ∷ 0x00 ∷ 0x00 ∷ [])) (far ∷ near ∷ near ∷ [])
unfolding computing replies.computing
handed_in_t =
    handed_out_lem (run_of in_t)
    (since [] (finished (reply (0x00 ∷ 0x00 ∷ 0x00 ∷ [])) ∷ finished (latched_in ThreeByte far) ∷ finished (latched_in ThreeByte near) ∷ silent ∷
    finished (latched_in ThreeByte near) ∷ [])
    refl in_t.is tt tt)

-- The reply's first byte arrives as 256: the reader hands out what is behind the next silence, and that is true.
abbrev scarred : List Item
scarred = heard_with (256 ∷ 0x00 ∷ 0x00 ∷ [])

shows : ShownItems false scarred (heard_with (0x00 ∷ 0x00 ∷ 0x00 ∷ []))
shows = stays (stays (scar (0x00 ∷ []) (stays (stays (stays (stays (stays (stays (stays (stays (stays (stays (stays (stays whole))))))))))))))

pub true_in_t : TrueOf ThreeByte scarred (far ∷ near ∷ near ∷ [])
unfolding computing replies.computing
true_in_t = true_where_damage_shows (run_of in_t) from_then_on shows

pub scarred_heard : Hears ThreeByte scarred (told.Broken none ∷ []) (near ∷ [])
unfolding computing replies.computing
scarred_heard = hears ThreeByte scarred (refl, refl)

-- the third report stays, behind the silence: it is handed out at word 13
pub stays_in_t : HandsOutAt ThreeByte scarred 13 near
unfolding computing replies.computing
stays_in_t =
    stays_behind_a_silence (run_of in_t) from_then_on (ahead ++ (silent ∷ [])) (record { format = ThreeByte; report = near; shows = false }) [] in_t.is whole
    {early = word 257 ∷ telling (Command byte05) ∷ as_items (256 ∷ 0x00 ∷ 0x00 ∷ []) ++ as_items moves} ahead [] refl tt
    (stays (stays (scar (0x00 ∷ []) (stays (stays (stays (stays (stays (stays (stays (stays whole))))))))))) 13 refl

-- Lost without a trace, it makes a press that nobody made: the reply takes the first report's first byte, and a report
-- with M down is handed out. A watch would save.
pub lost_in_t : Hears ThreeByte (heard_with (0x00 ∷ 0x00 ∷ [])) (told.Buttons 0 ∷ []) (report 2 (minus 24) (pos 0) ∷ near ∷ [])
    × (◌≡◌ {A = ℕ} (presses_from (is_down middle) 0 (report 2 (minus 24) (pos 0) ∷ near ∷ [])) 1)
    × (◌≡◌ {A = ℕ} (presses (is_down middle) false (buttons_told polling)) 0)
unfolding computing replies.computing presses buttons_told
lost_in_t = (hears ThreeByte (heard_with (0x00 ∷ 0x00 ∷ [])) (refl, refl), refl, refl)

-- So does a silence that comes in behind its first byte: its last two and the first report's first are a report, and
-- the next has M down.
pub silence_in_t : Hears ThreeByte (heard_with (0x00 ∷ 257 ∷ 0x00 ∷ 0x00 ∷ [])) (told.Broken (came 1 0 0) ∷ []) (report 0 (pos 0) (pos 0) ∷
    report 2 (minus 24) (pos 0) ∷ near ∷ [])
    × (◌≡◌ {A = ℕ} (presses_from (is_down middle) 0 (report 0 (pos 0) (pos 0) ∷ report 2 (minus 24) (pos 0) ∷ near ∷ [])) 1)
unfolding computing replies.computing presses
silence_in_t = (hears ThreeByte (heard_with (0x00 ∷ 257 ∷ 0x00 ∷ 0x00 ∷ [])) (refl, refl), refl)

-- S: `t` and its reply, M is pressed, a space breaks its report off, so that it is shown again; M is released. A watch
-- that was told the buttons at the start tells one press.
abbrev tapping : List Event
tapping = Host lettert ∷ slots 2 (Buttons 2 ∷ slots 1 (Host space ∷ slots 4 (Buttons 0 ∷ slots 3 [])))

abbrev tapped : List Item
tapped =
    telling (Command lettert) ∷ as_items (0x53 ∷ 0x4F ∷ 0x9A ∷ 256 ∷ [])
    ++ (telling (Command space) ∷ as_items (0x06 ∷ 0x9A ∷ 0x00 ∷ 0x00 ∷ 0x98 ∷ 0x00 ∷ 0x00 ∷ []))

abbrev down : Report
down = report 2 (pos 0) (pos 0)

abbrev up : Report
up = report 0 (pos 0) (pos 0)

pub in_s : SendsItems Mm tapping tapped
    (finished (reply (0x53 ∷ 0x4F ∷ [])) ∷ broken 1 (showing_in Mm down) ∷ finished (reply (0x06 ∷ [])) ∷ finished (showing_in Mm down) ∷
    finished (showing_in Mm up) ∷ [])
unfolding computing replies.computing
in_s = record { asked = refl; line = refl; is = refl; ends = refl }

pub saved_once : (n : NewToldReader) (done : List Done) (told : List Told)
    → FreshPromise (letter_of Mm) n
    → ItemsPromise n.reader tapped done
    → HeardAll (watching 0) (handed_out (own_answers_of done)) told
    → times_down middle told ≡ 1
unfolding computing replies.computing presses buttons_told
saved_once n done told fresh q =
    as_many_saves (run_of in_s) middle (carries_middle Mm (λ e. omega (arith, ap letter_of e))) n fresh done refl refl refl refl (marked refl) q told

-- What else a polled line needs, in T. A break must not be lost without a 256: two bytes of a report that O broke off and
-- the next one's first are a report, and another has M down. The reader must not be told of a command that was not sent:
-- of `t`, behind the first byte of 00 54 4F, it takes the others for letters; behind 00 00 02 and 00 01 00 M is down. (One
-- that is not told of a space: `untold_t`.) And before a silence it hands out nothing.
pub break_in_t : Hears ThreeByte (as_items (257 ∷ 0x00 ∷ 0x01 ∷ 0x00 ∷ 0x02 ∷ 0xE8 ∷ 0x00 ∷ 0x01 ∷ 0x00 ∷ [])) [] (near ∷ report 2 (minus 24) (pos 0) ∷ [])
unfolding computing replies.computing
break_in_t = hears ThreeByte _ (refl, refl)

pub told_of_none : Hears ThreeByte
    (word 257 ∷ word 0x00 ∷ telling (Command lettert) ∷ as_items (0x54 ∷ 0x4F ∷ 0x00 ∷ 0x00 ∷ 0x02 ∷ 0x00 ∷ 0x01 ∷ 0x00 ∷ []))
    (told.Letters 0x54 0x4F ∷ []) (report 0 (pos 0) (pos 0) ∷ report 2 (pos 0) (pos 1) ∷ [])
unfolding computing replies.computing
told_of_none = hears ThreeByte _ (refl, refl)

pub silence_first : Hears ThreeByte (as_items (0x02 ∷ 0x00 ∷ 0x00 ∷ [])) [] []
unfolding computing replies.computing
silence_first = hears ThreeByte _ (refl, refl)

-- In V a telling of `t` that comes in takes 56, a first byte with R down, for the format letter: the report that stays is
-- not handed out.
pub told_in_v : Hears Microsoft (telling (Command lettert) ∷ as_items (0x56 ∷ 0x01 ∷ 0x00 ∷ [])) (told.Broken (came 1 0x56 0) ∷ []) []
unfolding computing replies.computing
told_in_v = hears Microsoft _ (refl, refl)

-- The box must be awake at its letter, and none may come among the events: what a box in U then sends, told to a reader
-- of S behind an ACK or not, has all three down.
pub letter_in_s : Hears Mm (as_items (0x87 ∷ 0x05 ∷ 0x00 ∷ 0x00 ∷ 0x00 ∷ [])) [] (report 7 (minus 5) (pos 0) ∷ [])
    × Hears Mm (as_items (0x06 ∷ 0x87 ∷ 0x05 ∷ 0x00 ∷ 0x00 ∷ 0x00 ∷ [])) [] (report 7 (minus 5) (pos 0) ∷ [])
unfolding computing replies.computing
letter_in_s = (hears Mm _ (refl, refl), hears Mm _ (refl, refl))

-- As many saves as presses: the runs of WorkedNeeds in which M is tapped twice, read by a fresh told reader, which is told
-- of no command. In prompt mode, behind P, with all still to be shown, with too many changes, and in V no press is told.
abbrev saved_of : Format → BallBox → List Event → ℕ
saved_of f b events = presses_from (is_down middle) 0 (handed_out (own_answers_of (done_of (fresh_of (letter_of f)).reader (as_items (words_of b events)))))

abbrev prompted : BallBox
prompted = box_after fresh_box (Host mode_d ∷ Host (letter_of Mm) ∷ [])

pub counts_needed : (◌≡◌ {A = ℕ} (saved_of Mm prompted (taps (Host mode_o ∷ slots 6 []))) 0)
    × (◌≡◌ {A = ℕ} (saved_of Mm (box_in Mm) (taps (Host letter_p ∷ slots 3 []))) 0)
    × (◌≡◌ {A = ℕ} (saved_of Mm (box_in Mm) (taps (slots 2 []))) 0)
    × (◌≡◌ {A = ℕ} (saved_of Mm (box_in Mm) too_many) 0)
    × (◌≡◌ {A = ℕ} (saved_of Microsoft (box_in Microsoft) (taps (slots 12 []))) 0)
unfolding computing replies.computing presses
counts_needed = (refl, refl, refl, refl, refl)
