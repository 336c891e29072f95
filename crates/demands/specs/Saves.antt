-- From the press to the save: "What I want next is a button press that survives a busy line", and never a second save
-- that nobody made. From the public step of the box, over the line, through the public reader, to the public watch; for
-- all answers that their promises permit.
use Rattle.std.specs.Prelude.{ℕ, suc, ◌+◌, ◌-◌, ◌*◌, ◌≤◌, ◌≡◌, refl, Bool, true, false, List, [], ◌∷◌, ◌++◌, length}
use Rattle.std.proofs.Common.{sym, ◌∙◌, ap, append-nil, append_assoc, arith, length-append, ne_eqb}
use Rattle.std.proofs.lemmas.Bool.{lt-leb}
use Rattle.frames.specs.Words.{line_words}
use Rattle.frames.specs.Passages.{Passage, silent, finished, UnderWay, nothing, Unbroken, Sub, passage_words, part_words}
use Rattle.frames.specs.Frame.{read}
use Rattle.frames.specs.Damage.{Shown, Scarred, Fewer, Quieter}
use Rattle.frames.proofs.Sub.{sub_all, sub_append, sub_more, sub_map}
use Rattle.frames.proofs.Passages.{passages_append}
use Rattle.wire.specs.Line.{letter_of, size_of, marked_of}
use Rattle.wire.specs.Holds.{carried}
use Rattle.wire.specs.Messages.{Message, report, message_bytes, SoundIn, SoundEnd, finished_reports}
use Rattle.wire.specs.Buttons.{Button, left, middle, right, is_down, presses, buttons_of, presses_from, buttons_sent, buttons_begun}
use Rattle.wire.specs.Buttons.{buttons_going, buttons_in, CarriedBy}
use Rattle.wire.specs.declared.Report.{Report}
use Rattle.wire.specs.declared.Format.{Format}
use Rattle.wire.specs.declared.Format.TheVariants.{Microsoft}
use Rattle.wire.proofs.Front.{size_between}
use Rattle.wire.proofs.Letters.{letter_named, size_named}
use Rattle.wire.proofs.Buttons as buttons
use Rattle.reader.specs.Counts.{handed_out}
use Rattle.reader.specs.Runs as reading
use Rattle.reader.specs.DamagedLines.{Given, Within, EndsAt, HandsOutBy, HandsOutAt, Replaced, AtStart}
use Rattle.reader.specs.Follows.{Follows, ShowsStates, SeenAt}
use Rattle.reader.specs.declared.Reader.{Reader}
use Rattle.reader.specs.State.{Read}
use Rattle.reader.proofs.Damaged as damaged
use Rattle.reader.proofs.Framed.{frame_of, state_of}
use Rattle.reader.proofs.Scars as scars
use Rattle.reader.proofs.Shown.{shown_true}
use Rattle.reader.proofs.Follows.{unbroken_then, front_unbroken, follows_on, as_if_told, followed_some}
use Rattle.ballbox.specs.Box.{dormant}
use Rattle.ballbox.specs.Presses.{remembered}
use Rattle.ballbox.specs.Commands.{is_stream, asks_for_reports}
use Rattle.ballbox.specs.Events.{bytes_left}
use Rattle.ballbox.specs.Good.{good}
use Rattle.ballbox.specs.Promises.{StepPromise}
use Rattle.ballbox.specs.declared.BallBox.{BallBox}
use Rattle.ballbox.specs.declared.Event.{Event}
use Rattle.ballbox.specs.declared.Event.TheVariants.{Buttons, Host}
use Rattle.ballbox.specs.declared.Stepped.{Stepped}
use Rattle.ballbox.proofs.Remembering.{remembered_length}
use Rattle.ballbox.proofs.Parts.{parts}
use Rattle.history.specs.Runs.{RunPromise, words_given}
use Rattle.history.specs.History.{next_box, passages_of, going_after}
use Rattle.history.specs.Carried.{Carrying, SetTo}
use Rattle.history.specs.Asked.{unanswered, all_unanswered, only_asks}
use Rattle.history.specs.Presses.{buttons_told, made, owed, none_empties, no_host, never_ninth, KeptOver, slots_in, box_after}
use Rattle.history.proofs.Bridge.{run_carried}
use Rattle.history.proofs.Asking.{set_of, set_sound, hosts_by}
use Rattle.history.proofs.Setting.{set_to, letter_empties}
use Rattle.history.proofs.Presses.{Streams, streams_from, at_rest_lem}
use Rattle.history.proofs.Unmade.{Last}
use Rattle.history.proofs.Ever.{never_begun, never_more, carrying_after}
use Rattle.history.proofs.Survives as survives
use Rattle.history.proofs.Survives.{Outlives, ShownAt, press_shown, press_seen, set_after}
use Rattle.history.proofs.Counts as counts
use Rattle.saves.specs.State.{watching, unaware}
use Rattle.saves.specs.Promises.{HeardAll, times_down}
use Rattle.saves.specs.declared.Told.{Told}
use Rattle.saves.proofs.Hearing as hearing
use Rattle.bridge.specs.Sent.{changes}
use Rattle.demands.specs.Demand3.{Run}

-- A good box, awake and set to f, in any mode, and what is going in it: a report of f, of which some bytes have gone,
-- or nothing.
pub record Box (f : Format) (b : BallBox) (g : UnderWay Message) : Type 0 where
  pub carrying : Carrying b g
  pub awake : dormant b ≡ false
  pub format : b.settings.format ≡ letter_of f
  pub sound : SoundEnd f g

set : {f : Format} {b : BallBox} {g : UnderWay Message} → Box f b g → SetTo f b g
set {f} {b} {g} h = set_of f b g h.carrying h.awake h.format h.sound

-- The buttons become n at a box, which then runs over `back`. The box is in a stream mode, n is a change, fewer than
-- eight states are remembered, and neither they nor n are replaced by a ninth change. With k states remembered before
-- n, `back` has (k + 2) reports' worth of slots, each a Send with a Latch since the Send before, and no byte of the
-- host's.
pub record Press (f : Format) (c : BallBox) (n : ℕ) (back : List Event) : Type 0 where
  pub stream : is_stream c.settings.mode ≡ true
  pub known : n ≤ 7
  pub changes : n ≡ c.settings.buttons → ⊥
  pub room : length (remembered c.memory) ≤ 7
  pub kept : KeptOver (next_box c (Buttons n)) back
  pub quiet : no_host back ≡ true
  pub slots : suc (suc (length (remembered c.memory))) * size_of f ≤ slots_in back

module _ {f : Format} {b : BallBox} {g : UnderWay Message} (box : Box f b g) (front : List Event) (hosts : all_unanswered front ≡ true)
    (n : ℕ) (back : List Event) (press : Press f (box_after b front) n back) where
  abbrev all : List Event
  all = front ++ (Buttons n ∷ back)

  outlives : Outlives f b g front n back
  outlives =
      let c = box_after b front in
      let now = carrying_after b g front box.carrying in
      survives.outlives f b g front n back box.carrying (set box) hosts press.quiet
      (record {
        stream = press.stream;
        known = press.known;
        changes = ne_eqb n c.settings.buttons press.changes;
        room = lt-leb 8 c.memory.count (omega (arith, press.room, remembered_length c.memory (parts c now.good).memory));
        kept = press.kept;
      })
      (rw (size_named (letter_of f) (letter_named f)) press.slots)

  module _ (answers : List Stepped) (permitted : RunPromise b (front ++ (Buttons n ∷ back)) answers) where
    line : part_words message_bytes g ++ words_given answers ≡ passage_words message_bytes (passages_of b g all) ++ part_words message_bytes (going_after b g all)
    line = run_carried b g all answers box.carrying.good box.carrying.carries permitted

    -- A press survives a busy line. The box has run over `front`, with no byte of the host's that has a reply or sets
    -- the format, and is in the middle of a report or not, whatever it remembers. A reader that has followed the line
    -- hands out, behind what it had handed out before, reports that show the states remembered at the press and then
    -- the press, in order, as f carries them. (It has followed from the first byte of the report that was going at the
    -- start.)
    pub a_press_survives : {r : Reader} {before : List Report}
        → Follows f (passages_of b g front) r before
        → ShowsStates f r (part_words message_bytes g ++ words_given answers) before (remembered (box_after b front).memory ++ (n ∷ []))
    a_press_survives {r} {before} follows =
        let o = outlives in
        record {
          since = finished_reports f o.later;
          hands_out = rw (line, o.is) (follows_on f (passages_of b g front) o.later (going_after b g all) r before o.sound o.end follows o.unbroken);
          in_order = press_seen f b g front n back o;
        }

    -- It does so too where silences are left out. The reader has followed the words of `front` as they were told, with
    -- silences left out of them (`heard`); and of the words behind, `rest`, any are left out.
    pub survives_unheard : {heard : List (Passage Message)} → Quieter heard (passages_of b g front)
        → {r : Reader} {before : List Report} → Follows f heard r before
        → (rest : List ℕ) → part_words message_bytes g ++ words_given answers ≡ passage_words message_bytes (passages_of b g front) ++ rest
        → {late : List ℕ} → Fewer late rest
        → ShowsStates f r (passage_words message_bytes heard ++ late) before (remembered (box_after b front).memory ++ (n ∷ []))
    survives_unheard quieter follows rest is few =
        let o = outlives in
        let early = passages_of b g front in
        let split = rw (line, o.is) at is in
        record {
          since = finished_reports f o.later;
          hands_out = as_if_told f early o.later (going_after b g all) o.sound o.end o.unbroken quieter follows rest split few;
          in_order = press_seen f b g front n back o;
        }

    -- And one that is made after a damaged stretch is seen: of the same words the stretch `old` was replaced by any
    -- legal words, and they go to a fresh reader.
    module _ (given pre old new post : List ℕ) (in_front : Given given)
        (as_split : part_words message_bytes g ++ words_given answers ≡ pre ++ (old ++ post)) (legal : line_words new ≡ true) where
      replaced : Replaced f (passages_of b g all) (going_after b g all) given pre old new post
      replaced =
          let o = outlives in
          record { sound = rw o.is o.sound; sound_going = o.end; in_front = in_front; as_sent_lem = sym line ∙ as_split; legal = legal }

      shown : ShownAt outlives.later n
      shown = press_shown f b g front n back outlives

      abbrev before : List (Passage Message)
      before = passages_of b g front ++ shown.before

      is : passages_of b g all ≡ before ++ (finished (report shown.latched) ∷ shown.after)
      is =
          outlives.is
          ∙ (ap (λ (l : List (Passage Message)). passages_of b g front ++ l) shown.is
          ∙ sym (append_assoc (passages_of b g front) shown.before (finished (report shown.latched) ∷ shown.after)))

      longer : length (passage_words message_bytes (passages_of b g front)) ≤ length (passage_words message_bytes before)
      longer = rw (passages_append message_bytes, length-append) (omega arith)

      abbrev place : ℕ
      place = length given + length (passage_words message_bytes before) + size_of f + length new - suc (length old)

      ends : Within before pre old → EndsAt f before given old new place
      ends w = omega (arith, (size_between f).0)

      seen : HandsOutAt f (given ++ (pre ++ (new ++ post))) place (carried f shown.latched.report)
          → SeenAt f (given ++ (pre ++ (new ++ post))) (buttons_in f n)
      seen h =
          record {
            place = place;
            handed = carried f shown.latched.report;
            at = h;
            buttons = buttons.carried_in f shown.latched.report ∙ ap (buttons_in f) shown.buttons;
          }

      -- in a marked format, where what the stretch lies in was over at the press
      pub seen_after_the_stretch : marked_of f ≡ true
          → Within (passages_of b g front) pre old
          → SeenAt f (given ++ (pre ++ (new ++ post))) (buttons_in f n)
      seen_after_the_stretch m w =
          let w2 : Within before pre old = omega (arith, longer) in
          seen (damaged.marked f _ _ given pre old new post replaced before shown.latched shown.after is place (ends w2) m w2)

      -- in U, T and W, where a silence came behind that before the press, and nothing was broken off since
      pub seen_after_a_silence : (ahead quietly : List (Passage Message))
          → passages_of b g front ≡ ahead ++ (silent ∷ quietly)
          → Unbroken quietly
          → Within ahead pre old
          → SeenAt f (given ++ (pre ++ (new ++ post))) (buttons_in f n)
      seen_after_a_silence ahead quietly e u w =
          let long : length (passage_words message_bytes ahead) ≤ length (passage_words message_bytes (passages_of b g front)) =
          rw (e, passages_append message_bytes, length-append) (omega arith) in
          let w2 : Within before pre old = omega (arith, longer, long) in
          let later_unbroken : Unbroken (shown.before ++ (finished (report shown.latched) ∷ shown.after)) = rw shown.is at outlives.unbroken in
          seen (damaged.unmarked f _ _ given pre old new post replaced before shown.latched shown.after is place (ends w2) ahead
          (quietly ++ shown.before)
          (ap (λ (x : List (Passage Message)). x ++ shown.before) e ∙ append_assoc ahead (silent ∷ quietly) shown.before)
          (unbroken_then quietly shown.before u (front_unbroken shown.before (finished (report shown.latched) ∷ shown.after) later_unbroken)) w)

-- No press is seen that was not made: over every list of events, whatever the host sends, from every good box, awake or
-- dormant, in any mode. What it has yet to show at the start are the buttons of the report that is going, the states
-- that it remembers, and the present ones; behind any state u, the finished reports, as f carries them, show no more
-- presses than those and what the box is told.
pub no_press_unmade : (f : Format) (down : ℕ → Bool) → CarriedBy f down → (u : ℕ) (b : BallBox) (g : UnderWay Message) (events : List Event) → Carrying b g
    → presses_from down u (finished_reports f (passages_of b g events)) ≤ presses down (down u) (owed b g ++ buttons_told events)
no_press_unmade f down c u b g events h =
    let all = never_more b g events h.good h.carries h.showing down (down u) in
    let some = buttons.at_front down u (buttons_sent (passages_of b g events)) (owed (box_after b events) (going_after b g events)) in
    omega (arith, all, some, buttons.seen_as_sent f down c (down u) (passages_of b g events))

-- So where it owes nothing older, as a box that is in prompt mode and answers 05H: behind its present buttons the
-- finished reports show no more presses than are made from then on.
pub none_older : (f : Format) (down : ℕ → Bool) → CarriedBy f down → (b : BallBox) (g : UnderWay Message) (events : List Event) → Carrying b g
    → remembered b.memory ≡ []
    → buttons_going g ≡ []
    → presses_from down b.settings.buttons (finished_reports f (passages_of b g events)) ≤ made down b events
unfolding presses
none_older f down c b g events h none going =
    let all = no_press_unmade f down c b.settings.buttons b g events h in
    omega (arith, rw (none, going) at all, buttons.stays_so down (down b.settings.buttons))

-- A box that begins with nothing going and nothing remembered, as it stands behind a format letter: then they are no
-- more than were made.
pub record Begins (f : Format) (b : BallBox) : Type 0 where
  pub good : good b ≡ true
  pub awake : dormant b ≡ false
  pub format : b.settings.format ≡ letter_of f
  pub idle : bytes_left b ≡ false
  pub none : remembered b.memory ≡ []

pub behind_a_letter : (f : Format) (b : BallBox) (a : Stepped) → good b ≡ true → dormant b ≡ false → StepPromise b (Host (letter_of f)) a → Begins f a.next
behind_a_letter f b a k d p =
    let s = set_to f b a k d p in
    record { good = s.good; awake = s.awake; format = s.format; idle = s.carries; none = letter_empties f b a k d p }

-- so does the box of demand 3
pub of_demand_3 : {f : Format} {b : BallBox} {a : Stepped} {events : List Event} {answers : List Stepped} → Run f b a events answers → Begins f a.next
of_demand_3 {f} {b} {a} run = behind_a_letter f b a run.good run.awake run.set

pub asked_unanswered : (events : List Event) → only_asks events ≡ true → all_unanswered events ≡ true
asked_unanswered events = hosts_by asks_for_reports unanswered (λ byte h. rw h) events

-- every format carries L and R, and every one but V carries M
pub carries_left : (f : Format) → CarriedBy f (is_down left)
carries_left = buttons.carries_left

pub carries_right : (f : Format) → CarriedBy f (is_down right)
carries_right = buttons.carries_right

pub carries_middle : (f : Format) → (f ≡ Microsoft → ⊥) → CarriedBy f (is_down middle)
carries_middle = buttons.carries_middle

-- A watch is handed the reports: it tells that the button went down no more often than so. One that was told the
-- buttons n at the start, and one that was not.
abbrev pub TellsAtMost : ℕ → Button → ℕ → List Report → Type 0
TellsAtMost most button n reports =
    (told : List Told)
    → (HeardAll (watching n) reports told → times_down button told ≤ most)
    × (HeardAll unaware reports told → times_down button told ≤ most)

tells : {most : ℕ} (button : Button) (n : ℕ) (reports : List Report) → presses_from (is_down button) n reports ≤ most → TellsAtMost most button n reports
tells button n reports few told = (
  λ h. omega (arith, hearing.heard_known button n reports told h),
  λ h. omega (arith, hearing.heard_fresh button reports told h, (hearing.fresh_near (is_down button) n reports).0),
)

module _ {f : Format} {b : BallBox} (begins : Begins f b) (events : List Event) where
  abbrev pub sent : List (Passage Message)
  sent = passages_of b nothing events

  abbrev going : UnderWay Message
  going = going_after b nothing events

  carrying : Carrying b nothing
  carrying = at_rest_lem b begins.good begins.idle

  seen_made : (down : ℕ → Bool) → CarriedBy f down → presses_from down b.settings.buttons (finished_reports f sent) ≤ made down b events
  seen_made down c = none_older f down c b nothing events carrying begins.none refl

  -- What a watch is handed of the finished reports, all or some of them, tells it of no more presses than were made.
  pub some_made : (button : Button) → CarriedBy f (is_down button) → (found : List Report) → Sub found (finished_reports f sent)
      → TellsAtMost (made (is_down button) b events) button b.settings.buttons found
  some_made button c found some =
      let part = buttons.fewer (is_down button) (is_down button b.settings.buttons) (sub_map (λ (r : Report). r.buttons) some) in
      tells button b.settings.buttons found (omega (arith, seen_made (is_down button) c, part))

  -- All presses are seen: in a stream mode, where nothing empties the memory, no ninth change comes, and all states
  -- have been shown.
  pub all_seen : (button : Button) → CarriedBy f (is_down button) → is_stream b.settings.mode ≡ true → none_empties events ≡ true → never_ninth b events ≡ true
      → remembered (box_after b events).memory ≡ []
      → presses_from (is_down button) b.settings.buttons (finished_reports f sent) ≡ made (is_down button) b events
  unfolding presses
  all_seen button c stream keeps never shown =
      let streams : Streams b nothing = streams_from b nothing carrying begins.awake stream in
      let last : Last b.settings.buttons b nothing = record { newest = rw begins.none; going = tt } in
      let now = rw (begins.none, shown) at (counts.as_many f (is_down button) c b.settings.buttons b nothing events streams keeps last never) in
      omega (arith, now)

  module _ (hosts : all_unanswered events ≡ true) (answers : List Stepped) (permitted : RunPromise b events answers) where
    is_sound : SoundIn f sent × SetTo f (box_after b events) going
    is_sound = set_after f b nothing events hosts (set_of f b nothing carrying begins.awake begins.format tt)

    at_end : SoundEnd f going
    at_end = set_sound f (box_after b events) going is_sound.1

    as_sent_lem : words_given answers ≡ passage_words message_bytes sent ++ part_words message_bytes going
    as_sent_lem = run_carried b nothing events answers begins.good begins.idle permitted

    -- what a reader hands out that follows the line
    pub handed_out_lem : {r : Reader} {found : List Report} → Follows f sent r found → HandsOutBy r (words_given answers) found
    handed_out_lem {r} {found} follows =
        rw as_sent_lem (rw (append-nil found, append-nil sent) at (follows_on f sent [] going r found (rw append-nil is_sound.0) at_end follows tt))

    -- As many saves as presses, from the box to the watch. The words go to a reader that follows the line, and its
    -- reports to a watch that was told the buttons at the start. Nothing empties the memory, no ninth change comes, and
    -- all states have been shown. Then a button is told to have gone down exactly as often as it was pressed.
    module _ (button : Button) (c : CarriedBy f (is_down button)) (stream : is_stream b.settings.mode ≡ true)
        (keeps : none_empties events ≡ true) (never : never_ninth b events ≡ true) (shown : remembered (box_after b events).memory ≡ [])
        {r : Reader} (follows : Follows f sent r (finished_reports f sent))
        (steps : List Read) (q : reading.StepsPromise r (words_given answers) steps) (told : List Told) where
      pub as_many_saves : HeardAll (watching b.settings.buttons) (handed_out (reading.answers steps)) told
          → times_down button told ≡ made (is_down button) b events
      as_many_saves h =
          let is = (handed_out_lem follows).by_steps steps q in
          hearing.heard_known button b.settings.buttons (finished_reports f sent) told (rw is at h) ∙ all_seen button c stream keeps never shown

      -- a watch that was not told them misses one press at most, that of the first report
      pub one_missed_at_most : HeardAll unaware (handed_out (reading.answers steps)) told → made (is_down button) b events ≤ suc (times_down button told)
      one_missed_at_most h =
          let is = (handed_out_lem follows).by_steps steps q in
          let near = (hearing.fresh_near (is_down button) b.settings.buttons (finished_reports f sent)).1 in
          omega (arith, near, hearing.heard_fresh button (finished_reports f sent) told (rw is at h), all_seen button c stream keeps never shown)

    -- Never a save that nobody made: whatever is emptied, replaced or still to be shown, and whichever reader follows
    -- the line.
    pub no_save_unmade : (button : Button) → CarriedBy f (is_down button) → {r : Reader} {found : List Report} → Follows f sent r found
        → (steps : List Read) → reading.StepsPromise r (words_given answers) steps
        → TellsAtMost (made (is_down button) b events) button b.settings.buttons (handed_out (reading.answers steps))
    no_save_unmade button c {r} {found} follows steps q = rw ((handed_out_lem follows).by_steps steps q) (some_made button c found (followed_some follows))

    -- Never a second save: in a marked format any words of the line may be lost, anywhere and however many, in one
    -- stretch or in several, and breaks and silences may come in, so that a byte may have arrived damaged, as 256. What
    -- is left goes to a reader that is fresh, or ready at the start.
    pub never_a_second_save : {rest : List ℕ} → Scarred rest (words_given answers) → marked_of f ≡ true
        → (button : Button) → CarriedBy f (is_down button)
        → {r : Reader} → AtStart f r
        → (steps : List Read) → reading.StepsPromise r rest steps
        → TellsAtMost (made (is_down button) b events) button b.settings.buttons (handed_out (reading.answers steps))
    unfolding presses
    never_a_second_save {rest} scarred m button c {r} start steps q =
        let d : Scarred rest (passage_words message_bytes sent ++ part_words message_bytes going) = rw as_sent_lem at scarred in
        let found = read (frame_of f) (state_of r) rest in
        let some = scars.scarred_some f m sent going is_sound.0 at_end d start in
        let down = is_down button in
        let was = down b.settings.buttons in
        let few = buttons.fewer down was some in
        let same = buttons.presses_carried f down c was (buttons_begun sent ++ buttons_going going) in
        let all = never_begun b nothing events carrying.good carrying.carries carrying.showing down was in
        let more =
        buttons.fewer down was (sub_append (sub_all (buttons_begun sent))
        (sub_more (buttons_going going) (remembered (box_after b events).memory ++ ((box_after b events).settings.buttons ∷ [])))) in
        let now = rw begins.none at all in
        rw ((scars.scarred_out f m sent going is_sound.0 at_end d start).by_steps steps q)
        (tells button b.settings.buttons found (omega (arith, few, same, more, now, buttons.stays_so down was)))

    -- And never a second save where damage shows, in every one of the seven formats: any stretches of the line are
    -- lost, each with a 256 in its place, and any silences are left out. What is left goes to a reader that is fresh,
    -- or ready at the start.
    pub never_a_second_save_where_damage_shows : {given rest : List ℕ} → Given given → Shown (marked_of f) rest (given ++ words_given answers)
        → (button : Button) → CarriedBy f (is_down button)
        → {r : Reader} → AtStart f r
        → (steps : List Read) → reading.StepsPromise r rest steps
        → TellsAtMost (made (is_down button) b events) button b.settings.buttons (handed_out (reading.answers steps))
    never_a_second_save_where_damage_shows {given} {rest} in_front shows button c {r} start steps q =
        let d : Shown (marked_of f) rest (given ++ (passage_words message_bytes sent ++ part_words message_bytes going)) = rw as_sent_lem at shows in
        let true = shown_true f sent going is_sound.0 at_end in_front start d in
        rw (true.hands_out.by_steps steps q) (some_made button c true.found true.among)

-- A recorder behind the bridge of V counts the same presses of M, from up.
pub bridge_counts : (was : Bool) (reports : List Report) → changes was reports ≡ presses (is_down middle) was (buttons_of reports)
unfolding changes presses
bridge_counts was [] = refl
bridge_counts was (r ∷ reports) = rw (bridge_counts (is_down middle r.buttons) reports)
