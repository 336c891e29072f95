-- Where a call leaves the program, and by what its loops fall.
use Rattle.std.proofs.Common.{◌≡◌, ℕ, zero, suc, ◌+◌, ◌-◌, ◌*◌, ◌≤◌, ◌<◌, Bool, true, false, cond, List, [], ◌∷◌, ◌++◌, length, take, drop, get_or, refl, sym, ◌∙◌, ap, subst, inl, inr, arith, append_assoc, length-drop, take-append-drop}
use mathlib.Core.Bool.{true≢false}
use mathlib.Core.Logic.{◌⊎◌, ⊎_elim}
use mir.Syntax.{w8}
use mir.Val.{Fits}
use Rattle.shell.specs.Outside.{Trace, Handed}
use Rattle.shell.specs.Standing.{Stands, Closes, Failed, silent}
use Rattle.shell.proofs.Laws as standing
use lib.Dec.{eqb}
use Rattle.numbers.proofs.Choices.{cases}
use Rattle.listing.specs.Scanning.{most_lines}
use Rattle.ballbox.specs.Box.{Bytes}
use Rattle.driver.specs.Feeding.{fresh, good}
use Rattle.driver.specs.Driving.{recording_of}
use Rattle.driver.specs.Promises.{Driven, Whole, enough, FeedPromise, FinishPromise}
use Rattle.driver.specs.Calls.{owing}
use Rattle.driver.specs.declared.Driver.{Driver}
use Rattle.driver.proofs.Keeps.{parts}
use Rattle.driver.proofs.Kept.{Kept}
use Rattle.driver.proofs.Refusals.{bad_state_feed, feed_stays_good}
use Rattle.driver.proofs.Whole.{all_of, all_at_once}
use Rattle.driver.proofs.Pieces.{quiet}
use Rattle.driver.proofs.Calls.{next_kept, call_goes, takes_some, feed_within, last_goes, ends_or_less}
use Rattle.driver.proofs.Nearer.{passed, most_bytes, never_passed, goes_on, stays_ended}
use Rattle.mbox.specs.Program.{mbox}

-- bytes, as the slice of a program tells them, and those of a part
pub all_bytes : (bs : List ℕ) → ((i : ℕ) → Fits w8 (get_or bs i 0)) → Bytes bs
all_bytes [] h = tt
all_bytes (b ∷ bs) h = ((h 0).fits, all_bytes bs (λ i. h (suc i)))

bytes_behind : (n : ℕ) (bs : List ℕ) → Bytes bs → Bytes (drop n bs)
bytes_behind zero bs h = h
bytes_behind (suc n) [] h = tt
bytes_behind (suc n) (b ∷ bs) h = bytes_behind n bs h.1

-- a list of no length
pub nothing : (l : List ℕ) → length l ≡ 0 → l ≡ []
nothing [] e = refl
nothing (x ∷ l) e = absurd (omega (arith, e))

-- it begins
pub begins : (t : ℕ) → Trace t [] [] [] → (m : Driver) → m ≡ fresh → Stands mbox t (all_of m) silent
begins t h m e = standing.reworded mbox t recording_of (all_of m) silent silent (standing.begins mbox t h) (λ q. rw e (sym (all_at_once q))) (λ _. refl)

-- IN A BLOCK: of the bytes that are left and of whatever follows, the driver writes what is still to be written
pub record Here (t : ℕ) (m : Driver) (bytes : List ℕ) (here : Driver) (rest : List ℕ) : Type 0 where
  pub kept : Kept here
  pub are_bytes : Bytes rest
  pub stands : Stands mbox t (λ q. all_of here (rest ++ q)) silent
  pub nearer : (here.ended ≡ true) ⊎ (passed m + length bytes ≤ passed here + length rest)

pub here_begins : (t : ℕ) (m : Driver) (bytes : List ℕ) → Kept m → Bytes bytes → Stands mbox t (λ q. all_of m (bytes ++ q)) silent → Here t m bytes m bytes
here_begins t m bytes h b s = record { kept = h; are_bytes = b; stands = s; nearer = inr (omega arith) }

-- what is left of the bytes, and of the slots: a line asks for fewer than a million
abbrev pub left_of : List ℕ → Driver → ℕ
left_of rest m = (most_lines + 1) * length rest + m.owed

-- whatever the driver: a call that took a byte or a slot left less
pub fewer : (here : Driver) (rest before after : List ℕ) (a : Driven) → FeedPromise here rest before a after → (1 ≤ a.taken) ⊎ (a.next.owed < here.owed)
    → left_of (drop a.taken rest) a.next < left_of rest here
fewer here rest before after a p some = go (good here) refl
  where
    few : a.taken ≤ length rest
    few = (feed_within here rest before after a p).0

    go : (g : Bool) → good here ≡ g → left_of (drop a.taken rest) a.next < left_of rest here
    go true e =
        let owes = (parts a.next (feed_stays_good here rest before after a e p)).slots in
        ⊎_elim (λ k. omega (arith, k, few, owes, length-drop a.taken rest)) (λ k. omega (arith, k, few, length-drop a.taken rest)) some
    go false e =
        let same = bad_state_feed here rest before after a e p in
        ⊎_elim (λ k. absurd (omega (arith, k, ap (λ (w : Whole). w.driven.taken) same))) (λ k. absurd (omega (arith, k, ap (λ (w : Whole). w.driven.next.owed) same))) some

-- a call, and what it wrote
module _ {t : ℕ} {m : Driver} {bytes : List ℕ} {here : Driver} {rest after : List ℕ} {a : Driven} (before : List ℕ) (h : Here t m bytes here rest)
    (p : FeedPromise here rest before a after) where
  goes : (q : List ℕ) → all_of here (rest ++ q) ≡ take a.written after ++ all_of a.next (drop a.taken rest ++ q)
  goes q =
      ap (λ (l : List ℕ). all_of here (l ++ q)) (sym (take-append-drop a.taken rest))
      ∙ ap (all_of here) (append_assoc (take a.taken rest) (drop a.taken rest) q)
      ∙ call_goes here rest before after a h.kept h.are_bytes p (drop a.taken rest ++ q)

  before_it : List ℕ → List ℕ
  before_it q = all_of here (rest ++ q)

  behind_it : List ℕ → List ℕ
  behind_it q = all_of a.next (drop a.taken rest ++ q)

  pub calls : (t' : ℕ) → Handed mbox.output t t' true (take a.written after) → Here t' m bytes a.next (drop a.taken rest)
  unfolding before_it behind_it
  calls t' w =
      record {
        kept = next_kept here rest before after a h.kept h.are_bytes p;
        are_bytes = bytes_behind a.taken rest h.are_bytes;
        stands = standing.writes mbox t t' true (take a.written after) before_it behind_it silent h.stands goes w refl;
        nearer = ⊎_elim (λ e. inl (stays_ended here rest before after a h.kept h.are_bytes p e))
            (λ k. ⊎_elim inl (λ l. inr (omega (arith, k, l, (feed_within here rest before after a p).0, length-drop a.taken rest)))
            (goes_on here rest before after a h.kept h.are_bytes p))
            h.nearer;
      }

  pub fails : (t' : ℕ) → Handed mbox.output t t' false (take a.written after) → Failed mbox t'
  unfolding before_it behind_it
  fails t' w = standing.fails_writing mbox t t' false (take a.written after) before_it behind_it silent h.stands goes w refl

  -- it takes a byte or a slot
  pub takes : enough ≤ length before → 1 ≤ here.owed + length rest → a.taken ≡ 0 → here.owed ≤ a.next.owed → ⊥
  takes room some none owes = ⊎_elim (λ k. omega (arith, k, none)) (λ k. omega (arith, k, owes)) (takes_some here rest before after a h.kept h.are_bytes p room some)

-- the block is over
module _ {t : ℕ} {m : Driver} {bytes : List ℕ} {here : Driver} {rest : List ℕ} (h : Here t m bytes here rest) (none : rest ≡ []) where
  pub all_taken : Stands mbox t (all_of here) silent
  all_taken = subst (λ (l : List ℕ). Stands mbox t (λ q. all_of here (l ++ q)) silent) none h.stands

  pub closes : here.ended ≡ true → Closes mbox t (all_of here []) []
  closes e = standing.settled mbox t (all_of here) silent (all_of here []) [] all_taken (λ q. quiet q here h.kept e ∙ sym (quiet [] here h.kept e)) (λ _. refl)

  pub falls : Kept m → 0 < length bytes → here.ended ≡ false → most_bytes - passed here < most_bytes - passed m
  falls first some y =
      ⊎_elim (λ e. absurd (true≢false (sym e ∙ y))) (λ k. omega (arith, k, some, ap length none, never_passed m first, never_passed here h.kept)) h.nearer

-- the calls that the end has at most: fewer than four million
abbrev pub calls_left : Driver → ℕ
calls_left m = cond m.ended 0 (1 + owing m)

pub few_calls : (m : Driver) → Kept m → calls_left m < 4000000
few_calls m h =
    let slots = h.within.slots in
    let owed : owing m ≤ m.owed + (most_lines + 1) = cases (λ (n : ℕ). m.owed + n ≤ m.owed + (most_lines + 1)) (eqb m.count 0) (λ _. omega arith) (λ _. omega arith) in
    cases (λ (n : ℕ). n < 4000000) m.ended (λ _. omega arith) (λ _. omega (arith, owed, slots))

-- AT THE END: what the driver writes of the end is left
module _ {t : ℕ} {here : Driver} {after : List ℕ} {a : Driven} (before : List ℕ) (kept : Kept here) (c : Closes mbox t (all_of here []) []) (p : FinishPromise here before a after) where
  pub left_after : Closes mbox t (take a.written after ++ all_of a.next []) []
  left_after = subst (λ (l : List ℕ). Closes mbox t l []) (last_goes here before after a kept p) c

  pub last_calls : (t' : ℕ) → Handed mbox.output t t' true (take a.written after) → Closes mbox t' (all_of a.next []) []
  last_calls t' w = standing.shows mbox t t' true (take a.written after) (all_of a.next []) [] left_after w refl

  pub last_fails : (t' : ℕ) → Handed mbox.output t t' false (take a.written after) → Failed mbox t'
  last_fails t' w = standing.fails_showing mbox t t' false (take a.written after) (all_of a.next []) [] left_after w refl

  -- and less of the end is left by each
  pub less : enough ≤ length before → calls_left a.next < 1 + owing here
  less room = go a.next.ended refl (ends_or_less here before after a kept p room)
    where
      go : (e : Bool) → a.next.ended ≡ e → (a.next.ended ≡ true) ⊎ (owing a.next < owing here) → cond e 0 (1 + owing a.next) < 1 + owing here
      go true e h = omega arith
      go false e (inl y) = absurd (true≢false (sym y ∙ e))
      go false e (inr k) = omega (arith, k)

-- IT ENDS
pub ends : (t : ℕ) (here : Driver) → Kept here → Closes mbox t (all_of here []) [] → here.ended ≡ true → Closes mbox t [] []
ends t here kept c e = subst (λ (l : List ℕ). Closes mbox t l []) (quiet [] here kept e) c
