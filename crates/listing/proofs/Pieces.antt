-- A piece of the input, whatever room it has: what was written, and what the rest gives, is the whole; and how much of it is taken.
use Prim.Native.Nat.{ℕ, ◌+◌, ◌*◌, ◌≤◌, ◌<◌}
use mathlib.Core.Path.{◌≡◌, refl, ap}
use mathlib.Core.Bool.{true}
use mathlib.Core.Logic.{⊎_elim}
use mathlib.Core.List.{List, ◌∷◌, ◌++◌, append_assoc}
use native.Mathlib.Omega.{arith}
use lib.Dec.{ltb}
use lib.ListN.{length, get_or, take, length-append}
use borrow.Author.Tests.{le-ltb, ltb-false}
use Rattle.numbers.proofs.Choices.{cases}
use Rattle.fold.specs.Fold.{written, run}
use Rattle.fold.proofs.Laws.{taken, within, ends, over_taken}
use Rattle.listing.specs.Feeding.{Feed, fed_byte, last_of, feeds, feed_in, finish_in, good}
use Rattle.listing.specs.Promises.{enough}
use Rattle.listing.specs.declared.Lister.{Lister}
use Rattle.listing.proofs.Few.{few_byte, few_last}
use Rattle.listing.proofs.Whole.{all_of}

-- what a piece wrote, and what comes behind the bytes that were taken
pub fed : (p q : List ℕ) (m : Lister) (room : ℕ) → let f = feed_in m p room in all_of m (take f.taken p ++ q) ≡ f.text ++ all_of f.next q
unfolding feed_in all_of
fed p q m room =
    over_taken feeds (λ m p texts next. all_of m (p ++ q) ≡ written feeds texts ++ all_of next q) (λ m. refl)
    (λ m c p texts next z ih. rw append_assoc (ap (λ (l : List ℕ). (fed_byte m c).text ++ l) ih)) p m room

-- it stops only before a byte whose text has no room behind what was written
pub takes_what_it_can : (p : List ℕ) (m : Lister) (room : ℕ) → let f = feed_in m p room in f.taken < length p
    → room < length f.text + length (fed_byte f.next (get_or p f.taken 0)).text
unfolding feed_in
takes_what_it_can p m room h = ⊎_elim (λ e. absurd (omega (arith, e.0))) (λ e. e.full e.number) (ends feeds p m room)

-- no more is taken than there is, and no more written than has room
pub feed_taken : (input : List ℕ) (m : Lister) (room : ℕ) → (feed_in m input room).taken ≤ length input
unfolding feed_in
feed_taken input m room = (within feeds input m room).0

pub feed_written : (input : List ℕ) (m : Lister) (room : ℕ) → length (feed_in m input room).text ≤ room
unfolding feed_in
feed_written input m room = (within feeds input m room).1

pub finish_written : (m : Lister) (room : ℕ) → length (finish_in m room).text ≤ room
unfolding finish_in
finish_written m room =
    cases (λ (f : Feed). length f.text ≤ room) (ltb room (length (last_of m).text)) (λ _. omega arith) (λ e. ltb-false _ _ e)

-- ENOUGH: with so many free places for each byte all of a piece is taken
few_written : (p : List ℕ) (m : Lister) (room : ℕ) → let f = feed_in m p room in length f.text ≤ enough * f.taken
unfolding feed_in
few_written p m room =
    over_taken feeds (λ m p texts next. length (written feeds texts) ≤ enough * length texts) (λ m. omega arith)
    (λ m c p texts next z ih. omega (arith, few_byte m c, length-append (fed_byte m c).text (written feeds texts))) p m room

pub all_taken : (p : List ℕ) (m : Lister) (room : ℕ) → enough * length p ≤ room → (feed_in m p room).taken ≡ length p
all_taken p m room h =
    let f = feed_in m p room in
    let short : f.taken < length p → ⊥ = λ e. omega (arith, takes_what_it_can p m room e, few_written p m room, few_byte f.next (get_or p f.taken 0)) in
    omega (arith, feed_taken p m room, short)

-- SOME: with so many free places a byte is taken, and the end is written whole
pub one_taken : (c : ℕ) (p : List ℕ) (m : Lister) (room : ℕ) → enough ≤ room → 1 ≤ (feed_in m (c ∷ p) room).taken
unfolding feed_in run
one_taken c p m room h = rw (taken feeds m c room refl (omega (arith, few_byte m c))) (omega arith)

pub finished : (m : Lister) (room : ℕ) → good m ≡ true → enough ≤ room → finish_in m room ≡ record { next = (last_of m).next; taken = 0; text = (last_of m).text }
unfolding finish_in
finished m room g h = let k = few_last m g in let fits : length (last_of m).text ≤ room = omega arith in rw (le-ltb _ _ fits)
