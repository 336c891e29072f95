-- Silences that are left out are no damage: a box whose idle Sends were left out sends the words that are left.
use Prim.Native.Nat.{ℕ, zero, suc, ◌<◌}
use mathlib.Core.Path.{◌≡◌, refl, sym, ◌∙◌, ap, subst}
use mathlib.Core.Bool.{Bool, true, false, cond}
use mathlib.Core.List.{List, [], ◌∷◌, ◌++◌}
use native.Mathlib.Omega.{arith}
use Rattle.numbers.proofs.Tested.{left, right}
use Rattle.frames.specs.Words.{silence}
use Rattle.frames.specs.Damage.{Fewer}
use Rattle.frames.specs.Damage as damage
use Rattle.frames.proofs.Fewer.{fewer_behind}
use Rattle.wire.specs.Reading.{at}
use Rattle.ballbox.specs.Marks.{marked}
use Rattle.ballbox.specs.Box.{Step, Bytes, FiveBytes, dormant}
use Rattle.ballbox.specs.Good.{good}
use Rattle.ballbox.specs.Events.{gives, bytes_left, awake, asleep, sending, next_byte, with_byte_ready, Speaks}
use Rattle.ballbox.specs.Promises.{sent_words, step_of, StepPromise}
use Rattle.ballbox.specs.declared.BallBox.{BallBox}
use Rattle.ballbox.specs.declared.Stepped.{Stepped}
use Rattle.ballbox.specs.declared.Event.{Event}
use Rattle.ballbox.specs.declared.Event.TheVariants.{Motion, Buttons, Host, Latch, Send, Period}
use Rattle.ballbox.proofs.Single.{says}
use Rattle.ballbox.proofs.Cases.{sending_silence, sending_byte, host_busy}
use Rattle.ballbox.proofs.Refusals.{ruled}
use Rattle.ballbox.proofs.Words.{only_send_and_host, step_bytes, ready_five}
use Rattle.ballbox.proofs.Goodness.{step_stays_good}
use Rattle.history.specs.Runs.{RunPromise, words_given}
use Rattle.history.specs.Asked.{hosts_pass, all_hosts}
use Rattle.history.specs.Thinned.{Thins, ended, same, idle, Chosen}

-- an idle Send gives a silence, and leaves the box as it was
idle_send : (b : BallBox) (a : Stepped) → StepPromise b Send a → step_of b Send ≡ gives (silence ∷ []) b
    → (a.next ≡ b) × (sent_words a ≡ silence ∷ [])
idle_send b a e i = let s = says b Send a e ∙ i in (ap (λ (s : Step). s.next) s, ap (λ (s : Step). s.words) s)

-- it is a run again, of the same box
pub thinned_run : {b : BallBox} {events fewer : List Event} {answers answered : List Stepped} → Thins b events answers fewer answered
    → RunPromise b events answers
    → RunPromise b fewer answered
unfolding RunPromise
thinned_run ended r = tt
thinned_run (same t) r = (r.0, thinned_run t r.1)
thinned_run {b} (idle {a = a} {events = events} {answers = answers} i t) r =
    thinned_run t (subst (λ (c : BallBox). RunPromise c events answers) (idle_send b a r.0 i).0 r.1)

-- the host's bytes are as before
pub thinned_hosts : (test : ℕ → Bool) {b : BallBox} {events fewer : List Event} {answers answered : List Stepped} → Thins b events answers fewer answered
    → all_hosts test events ≡ true
    → all_hosts test fewer ≡ true
unfolding all_hosts
thinned_hosts test ended h = refl
thinned_hosts test (same {e = e} {events = events} t) h =
    rw (left (hosts_pass test e) (all_hosts test events) h) (thinned_hosts test t (right (hosts_pass test e) (all_hosts test events) h))
thinned_hosts test (idle i t) h = thinned_hosts test t h

-- its words are those of the run with silences left out
pub thinned_words : {b : BallBox} {events fewer : List Event} {answers answered : List Stepped} → Thins b events answers fewer answered
    → RunPromise b events answers
    → Fewer (words_given answered) (words_given answers)
unfolding RunPromise
thinned_words ended r = damage.whole
thinned_words (same {a = a} t) r = fewer_behind (sent_words a) (thinned_words t r.1)
thinned_words {b} (idle {a = a} {events = events} {answers = answers} {answered = answered} q t) r =
    let i = idle_send b a r.0 q in
    let later = subst (λ (c : BallBox). RunPromise c events answers) i.0 r.1 in
    rw i.1 (damage.unheard (thinned_words t later))

differ : {X : Type 0} {w v : ℕ} {ws vs : List ℕ} → w ∷ ws ≡ v ∷ vs → (w ≡ v → ⊥) → X
differ e n = absurd (n (ap (λ (l : List ℕ). at 0 l) e))

bytes_at : (bs : List ℕ) (i : ℕ) → Bytes bs → at i bs < 256
bytes_at [] i h = omega arith
bytes_at (b ∷ bs) zero h = h.0
bytes_at (b ∷ bs) (suc i) h = bytes_at bs i h.1

-- a silence is an idle Send
awake_send : (b : BallBox) (ws : List ℕ) (l : Bool) → bytes_left b ≡ l → FiveBytes b.going → (sending b).words ≡ silence ∷ ws
    → sending b ≡ gives (silence ∷ []) b
unfolding next_byte
awake_send b ws false l five h = sending_silence b l
awake_send b ws true l five h =
    let small = bytes_at (with_byte_ready b).going.bytes (with_byte_ready b).going.sent (ready_five b five).each in
    differ (sym (ap (λ (s : Step). s.words) (sending_byte b l)) ∙ h) (λ e. omega (arith, small, e))

abbrev IsIdle : BallBox → Event → Type 0
IsIdle b e = (e ≡ Send) × (step_of b Send ≡ gives (silence ∷ []) b)

by_event : (b : BallBox) (e : Event) (ws : List ℕ) (d : Bool) → dormant b ≡ d → good b ≡ true → FiveBytes b.going → Speaks b e
    → (step_of b e).words ≡ silence ∷ ws
    → IsIdle b e
unfolding asleep awake
by_event b (Motion dx dy) ws d s g five says h = absurd says
by_event b (Buttons n) ws d s g five says h = absurd says
by_event b (Host n) ws d s g five says h =
    differ (sym (ap (λ (s : Step). s.words) (ruled b (Host n) false g refl says.0 ∙ host_busy b n says.1)) ∙ h) (λ e. omega (arith, e))
by_event b Latch ws d s g five says h = absurd says
by_event b Send ws true s g five says h = (refl, ruled b Send true g refl s)
by_event b Send ws false s g five says h =
    let i = ruled b Send false g refl s in
    (refl, i ∙ awake_send b ws (bytes_left b) refl five (sym (ap (λ (s : Step). s.words) i) ∙ h))
by_event b Period ws d s g five says h = absurd says

silent_idle : (b : BallBox) (e : Event) (a : Stepped) → StepPromise b e a → good b ≡ true → FiveBytes b.going → sent_words a ≡ silence ∷ []
    → IsIdle b e × (a.next ≡ b)
silent_idle b e a p g five h =
    let speaks = only_send_and_host b e a silence [] p h in
    let i = by_event b e [] (dormant b) refl g five speaks (sym (ap (λ (s : Step). s.words) (says b e a p)) ∙ h) in
    (i, ap (λ (s : Step). s.next) (says b e a p ∙ (ap (λ (x : Event). step_of b x) i.0 ∙ i.1)))

-- one event more, of which the silence is left out or not
one_more_lem : (b : BallBox) (e : Event) (a : Stepped) (events : List Event) (answers : List Stepped) (words : List ℕ) (t : Bool) (w : ℕ)
    → sent_words a ≡ cond t (w ∷ []) []
    → (cond t (w ∷ []) [] ≡ silence ∷ [] → IsIdle b e × (a.next ≡ b))
    → ((rest : List ℕ) → Fewer rest (words_given answers) → Chosen a.next events answers rest)
    → Fewer words (cond t (w ∷ []) [] ++ words_given answers)
    → Chosen b (e ∷ events) (a ∷ answers) words
one_more_lem b e a events answers words false w same_words idles later f =
    let c = later words f in
    record { fewer = e ∷ c.fewer; answered = a ∷ c.answered; thins = same c.thins; words_are = rw same_words c.words_are }
one_more_lem b e a events answers _ true w same_words idles later (damage.stays {left = rest} f) =
    let c = later rest f in
    let is = ap (λ (l : List ℕ). w ∷ l) c.words_are in
    record { fewer = e ∷ c.fewer; answered = a ∷ c.answered; thins = same c.thins; words_are = rw same_words is }
one_more_lem b e a events answers words true _ same_words idles later (damage.unheard f) =
    let c = later words f in
    let i = idles refl in
    let t = subst (λ (x : BallBox). Thins x events answers c.fewer c.answered) i.1 c.thins in
    record {
      fewer = c.fewer;
      answered = c.answered;
      thins = subst (λ (x : Event). Thins b (x ∷ events) (a ∷ answers) c.fewer c.answered) (sym i.0.0) (idle i.0.1 t);
      words_are = c.words_are;
    }

-- Whichever silences are left out of its words, there is a run of the same box that sends what is left. (Its bytes are
-- bytes, as those of every box are that the public steps make: fresh-bytes, step-bytes.)
pub chosen : (events : List Event) (answers : List Stepped) (b : BallBox) → good b ≡ true → FiveBytes b.going → RunPromise b events answers
    → (words : List ℕ) → Fewer words (words_given answers)
    → Chosen b events answers words
unfolding RunPromise
chosen [] [] b g five r _ damage.whole = record { fewer = []; answered = []; thins = ended; words_are = refl }
chosen [] (a ∷ answers) b g five r words f = absurd r
chosen (e ∷ events) [] b g five r words f = absurd r
chosen (e ∷ events) (a ∷ answers) b g five r words f =
    one_more_lem b e a events answers words (marked a.sent) a.word refl (silent_idle b e a r.0 g five)
    (λ rest few. chosen events answers a.next (step_stays_good b e a r.0 g) (step_bytes b e a r.0 five) r.1 rest few) f
