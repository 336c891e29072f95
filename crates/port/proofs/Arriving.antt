-- The words that a port tells of what comes show all damage.
use Prim.Native.Nat.{ℕ, zero, suc}
use mathlib.Core.Path.{◌≡◌, refl}
use mathlib.Core.Bool.{Bool, true, false}
use mathlib.Core.List.{List, [], ◌∷◌, ◌++◌}
use native.Mathlib.Omega.{arith}
use Rattle.frames.specs.Words.{break}
use Rattle.frames.specs.Damage.{Shown}
use Rattle.frames.specs.Damage as damage
use Rattle.frames.proofs.Fewer.{fewer_shown}
use Rattle.port.specs.Marks.{opened}
use Rattle.port.specs.Sessions.{Event, Alike}
use Rattle.port.specs.Hearing.{What, missed, Moment, events_of, silent, word_at, stood, Sure, Arrival, events_from, SureFrom}
use Rattle.port.specs.Promises.{Calls}
use Rattle.port.specs.Arriving.{Harm, is_damaged, is_broken, is_missed, moment, Comes, nothing, sounds, harmed, stands_not, Arrives, arrives}
use Rattle.port.specs.declared.Port.{Port}
use Rattle.port.proofs.Rightly.{promised_rightly, calls_alike}

-- silences stay
silences_stay : {marked : Bool} (n : ℕ) {left words : List ℕ} → Shown marked left words → Shown marked (silent n ++ left) (silent n ++ words)
silences_stay zero d = d
silences_stay (suc n) d = damage.stays (silences_stay n d)

word_of_harm : (clears : ℕ) {what : What} → Harm what → word_at clears what ≡ break
word_of_harm clears (is_damaged x) = refl
word_of_harm clears is_broken = refl
word_of_harm clears (is_missed about) = refl

-- what stood at the pin shows all damage
stood_shows : {clears : ℕ} {marked : Bool} {moments : List Moment} {words : List ℕ} → Comes clears moments words
    → Shown marked (stood clears moments) words
stood_shows nothing = damage.whole
stood_shows (sounds b n waited h c) = damage.stays (silences_stay n (stood_shows c))
stood_shows {clears} (harmed d gone n waited c) = rw (word_of_harm clears d) (damage.scar gone (silences_stay n (stood_shows c)))
stood_shows (stands_not c) = damage.unheard (stood_shows c)

-- in a marked format a silence may also come in behind each
abbrev more : List Moment → List Moment
more [] = []
more (m ∷ moments) = moment m.what (suc m.silences) m.waited ∷ more moments

abbrev more_from : Arrival → Arrival
more_from a = record { silences = suc a.silences; waited = a.waited; moments = more a.moments }

more_shows : {clears : ℕ} {moments : List Moment} {words : List ℕ} → Comes clears moments words → Shown true (stood clears (more moments)) words
more_shows nothing = damage.whole
more_shows (sounds b n waited h c) = damage.stays (damage.comes_in refl (silences_stay n (more_shows c)))
more_shows {clears} (harmed d gone n waited c) =
    rw (word_of_harm clears d) (damage.scar gone (damage.comes_in refl (silences_stay n (more_shows c))))
more_shows (stands_not c) = damage.unheard (more_shows c)

more_events : (moments : List Moment) → events_of (more moments) ≡ events_of moments
more_events [] = refl
more_events (m ∷ moments) = rw (more_events moments)

more_sure : (q : ℕ) (moments : List Moment) → Sure q (more moments)
more_sure q [] = tt
more_sure q (m ∷ moments) = ((λ e. absurd (omega (arith, e))), more_sure q moments)

shows : (marked : Bool) (c q : ℕ) {p : Port} → p ≡ opened c q
    → {a : Arrival} {words : List ℕ} → Arrives c a words → (marked ≡ false → SureFrom q a)
    → {told : List ℕ} → Calls p (events_from a) told
    → Shown marked told words
shows false c q is {a} (arrives n waited x) sure calls =
    fewer_shown (promised_rightly c q is a (sure refl) calls) (silences_stay n (stood_shows x))
shows true c q {p} is {a} (arrives n waited {moments} x) sure {told} calls =
    let same : Calls p (events_from (more_from a)) told = rw (more_events moments) calls in
    let certain : SureFrom q (more_from a) = ((λ e. absurd (omega (arith, e))), more_sure q moments) in
    fewer_shown (promised_rightly c q is (more_from a) certain same) (damage.comes_in refl (silences_stay n (more_shows x)))

-- Whatever comes of a box's words, and by whatever calls it is handed to a port that was just opened: the words that the
-- port tells are what is left of the box's words where all damage shows. In a format without marks the program must be
-- sure of its silences.
pub port_shows : (marked : Bool) (c q : ℕ) {p : Port} → p ≡ opened c q
    → {a : Arrival} {words : List ℕ} → Arrives c a words → (marked ≡ false → SureFrom q a)
    → {handed : List Event} → Alike p handed (events_from a)
    → {told : List ℕ} → Calls p handed told
    → Shown marked told words
port_shows marked c q is come sure alike calls = shows marked c q is come sure (calls_alike alike calls)

-- A port that is opened late, with `lost` as the first call: the words that had gone by then are told to be lost.
pub late_and_told : {clears : ℕ} (gone : List ℕ) {moments : List Moment} {words : List ℕ} → Comes clears moments words
    → Arrives clears (record { silences = 0; waited = []; moments = moment (missed []) 0 [] ∷ moments }) (gone ++ words)
late_and_told gone c = arrives 0 [] (harmed (is_missed []) gone 0 [] c)
