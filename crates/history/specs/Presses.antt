-- Presses in a run: those that are made, the button states that are to be shown, and those that its reports showed.
use Rattle.std.specs.Prelude.{ℕ, ◌+◌, ◌≤◌, ◌≡◌, Bool, true, false, not, cond, ◌&&◌, ◌||◌, List, [], ◌∷◌, ◌++◌, length, eqb, leb}
use Rattle.wire.specs.Line.{known}
use Rattle.frames.specs.Passages.{Passage, silent, finished, broken, UnderWay, nothing, first, finished_by}
use Rattle.wire.specs.Messages.{Latched, Message, report, reply}
use Rattle.wire.specs.Buttons.{presses, buttons_going}
use Rattle.ballbox.specs.Box.{mode_d}
use Rattle.ballbox.specs.Presses.{remembered, full}
use Rattle.ballbox.specs.Commands.{is_stream, letter_p, letterd}
use Rattle.ballbox.specs.declared.BallBox.{BallBox}
use Rattle.ballbox.specs.declared.Event.{Event}
use Rattle.ballbox.specs.declared.Event.TheVariants.{Motion, Buttons, Host, Latch, Send, Period}
use Rattle.ballbox.specs.declared.Stepped.{Stepped}
use Rattle.history.specs.History.{next_box}
use Rattle.history.specs.Asked.{all_hosts}

-- "D, P, `d` and the format commands empty the memory": every other byte of the host's leaves it
abbrev pub empties : ℕ → Bool
empties byte = known byte || eqb byte mode_d || eqb byte letter_p || eqb byte letterd

-- events of which none empties the memory; of which none is a byte of the host's; of which such a byte is one of J K L R M Q N O
abbrev pub none_empties : List Event → Bool
none_empties events = all_hosts (λ byte. not (empties byte)) events

abbrev pub no_host : List Event → Bool
no_host events = all_hosts (λ byte. false) events

abbrev pub only_streams : List Event → Bool
only_streams events = all_hosts is_stream events

-- the states that a box is told of, 0 to 7; others are refused
unfoldable pub buttons_told : List Event → List ℕ
buttons_told [] = []
buttons_told (Motion dx dy ∷ events) = buttons_told events
buttons_told (Buttons n ∷ events) = cond (leb n 7) (n ∷ []) [] ++ buttons_told events
buttons_told (Host byte ∷ events) = buttons_told events
buttons_told (Latch ∷ events) = buttons_told events
buttons_told (Send ∷ events) = buttons_told events
buttons_told (Period ∷ events) = buttons_told events

-- The presses of a button that are made at a box over events: how often it goes down in what the box is told.
abbrev pub made : (ℕ → Bool) → BallBox → List Event → ℕ
made down b events = presses down (down b.settings.buttons) (buttons_told events)

-- what a box has yet to show: the buttons of the report that is going, the states that are remembered, and the present one
abbrev pub owed : BallBox → UnderWay Message → List ℕ
owed b g = buttons_going g ++ (remembered b.memory ++ (b.settings.buttons ∷ []))

-- "button states in order": the state that an event changes the buttons to, if it does
abbrev pub change_to : BallBox → Event → List ℕ
change_to b (Motion dx dy) = []
change_to b (Buttons n) = cond (leb n 7 && not (eqb n b.settings.buttons)) (n ∷ []) []
change_to b (Host byte) = []
change_to b Latch = []
change_to b Send = []
change_to b Period = []

unfoldable pub changes_in : BallBox → List Event → List ℕ
changes_in b [] = []
changes_in b (e ∷ events) = change_to b e ++ changes_in (next_box b e) events

-- "A ninth change replaces the newest": the last state, with another in its place
abbrev pub in_place_of_last : ℕ → List ℕ → List ℕ
in_place_of_last n [] = n ∷ []
in_place_of_last n (s ∷ []) = n ∷ []
in_place_of_last n (s ∷ t ∷ states) = s ∷ in_place_of_last n (t ∷ states)

-- a change behind the states, or, where it is a ninth, in place of the last
abbrev pub noting : Bool → List ℕ → List ℕ → List ℕ
noting ninth [] states = states
noting false (n ∷ more) states = states ++ (n ∷ [])
noting true (n ∷ more) states = in_place_of_last n states

-- the states, and then the changes of a run
unfoldable pub states_over : BallBox → List ℕ → List Event → List ℕ
states_over b states [] = states
states_over b states (e ∷ events) = states_over (next_box b e) (noting (full b.memory) (change_to b e) states) events

-- no change is a ninth
abbrev pub no_ninth : BallBox → List ℕ → Bool
no_ninth b [] = true
no_ninth b (n ∷ more) = not (full b.memory)

unfoldable pub never_ninth : BallBox → List Event → Bool
never_ninth b [] = true
never_ninth b (e ∷ events) = no_ninth b (change_to b e) && never_ninth (next_box b e) events

-- what a box remembers now is kept over these events: it is no more than seven states, or none of the events is a ninth change
pub data KeptOver (b : BallBox) (events : List Event) : Type 0 where
  among_seven : length (remembered b.memory) ≤ 7 → KeptOver b events
  without_ninth : never_ninth b events ≡ true → KeptOver b events

-- "each shown by a report of its own": the states that finished reports showed
abbrev pub shown_in : Message → List ℕ
shown_in (report l) = cond l.shows (l.report.buttons ∷ []) []
shown_in (reply bytes) = []

abbrev pub shown_by : List (Passage Message) → List ℕ
shown_by passages = finished_by shown_in passages

-- "a broken-off report is followed by another with the same buttons": the next report, finished, broken off or under way, shows the same state
abbrev pub Shows : ℕ → Latched → Type 0
Shows state l = (l.shows ≡ true) × (l.report.buttons ≡ state)

abbrev pub ShowsIn : ℕ → Message → Type 0
ShowsIn state (report l) = Shows state l
ShowsIn state (reply bytes) = Unit {0}

abbrev pub NextShows : ℕ → List (Passage Message) → UnderWay Message → Type 0
NextShows state [] nothing = Unit {0}
NextShows state [] (first n m) = ShowsIn state m
NextShows state (silent ∷ passages) g = NextShows state passages g
NextShows state (finished (report l) ∷ passages) g = Shows state l
NextShows state (finished (reply bytes) ∷ passages) g = NextShows state passages g
NextShows state (broken n (report l) ∷ passages) g = Shows state l
NextShows state (broken n (reply bytes) ∷ passages) g = NextShows state passages g

abbrev pub ShownAgain : List (Passage Message) → UnderWay Message → Type 0
ShownAgain [] g = Unit {0}
ShownAgain (silent ∷ passages) g = ShownAgain passages g
ShownAgain (finished m ∷ passages) g = ShownAgain passages g
ShownAgain (broken n (report l) ∷ passages) g = (l.shows ≡ true → NextShows l.report.buttons passages g) × ShownAgain passages g
ShownAgain (broken n (reply bytes) ∷ passages) g = ShownAgain passages g

-- the slots of a run: each Send with a Latch between it and the Send before it; told whether a Latch has come since
unfoldable pub slots_from : Bool → List Event → ℕ
slots_from latched [] = 0
slots_from latched (Motion dx dy ∷ events) = slots_from latched events
slots_from latched (Buttons n ∷ events) = slots_from latched events
slots_from latched (Host byte ∷ events) = slots_from latched events
slots_from latched (Latch ∷ events) = slots_from true events
slots_from latched (Send ∷ events) = cond latched 1 0 + slots_from false events
slots_from latched (Period ∷ events) = slots_from latched events

abbrev pub slots_in : List Event → ℕ
slots_in events = slots_from false events

-- the box after a run, by the rules and by the answers to it
unfoldable pub box_after : BallBox → List Event → BallBox
box_after b [] = b
box_after b (e ∷ events) = box_after (next_box b e) events

unfoldable pub last_box : BallBox → List Stepped → BallBox
last_box b [] = b
last_box b (a ∷ answers) = last_box a.next answers
