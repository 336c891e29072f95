-- A line with replies on which all damage shows. Where a reply is damaged, the rest of its bytes go to the report
-- reader, which drops them or keeps one of them until the next word that it is given. So it hands out what it would
-- hand out without them, of a line without replies on which all damage shows.
use Prim.Native.Nat.{ℕ, ◌<◌}
use mathlib.Core.Path.{◌≡◌, refl, sym, ◌∙◌, ap}
use mathlib.Core.Bool.{Bool, true, false}
use mathlib.Core.List.{List, [], ◌∷◌, ◌++◌}
use native.Mathlib.Omega.{arith}
use lib.ListN.{length}
use borrow.Author.Tests.{ne_eqb}
use Rattle.numbers.proofs.Tested.{holds}
use Rattle.frames.specs.Words.{break, silence}
use Rattle.frames.specs.Damage.{Shown}
use Rattle.frames.specs.Damage as damage
use Rattle.frames.specs.Frame.{Frame, State, has, kept, Answer, report, dropped, reports, move_of, fresh, step, answers, read, Laws, Marked}
use Rattle.frames.specs.Frame as frame
use Rattle.frames.proofs.Reading.{passes, quiet}
use Rattle.replies.specs.Replying.{none, awaiting, nothing, finishes, more}
use Rattle.replies.specs.Rules.{kind_of, continues}
use Rattle.replies.specs.declared.Asked.{Asked}
use Rattle.replies.specs.declared.Awaited.{Awaited}
use Rattle.replies.proofs.Lines.{none_continues}
use Rattle.tellings.specs.Items.{Item, word, telling, as_items}
use Rattle.tellings.specs.Damage.{ShownItems, whole, stays, unheard, scar, comes_in}
use Rattle.tellings.proofs.Apart.{given}
use Rattle.tellings.proofs.Passed.{OfSort}

-- what the report reader is given of items, item by item
pub given_past : (a : Awaited) (w : ℕ) (items : List Item) → continues a w ≡ false → given a (word w ∷ items) ≡ w ∷ given nothing items
unfolding given
given_past a w items e = rw e

given_word : (w : ℕ) (items : List Item) → given nothing (word w ∷ items) ≡ w ∷ given nothing items
given_word w items = given_past nothing w items (none_continues w)

given_more : (a : Awaited) (b : ℕ) (items : List Item) → continues a b ≡ true → finishes a ≡ false → given a (word b ∷ items) ≡ given (more a b) items
unfolding given
given_more a b items h e = rw (h, e)

given_last : (a : Awaited) (b : ℕ) (items : List Item) → continues a b ≡ true → finishes a ≡ true → given a (word b ∷ items) ≡ given nothing items
unfolding given
given_last a b items h e = rw (h, e)

given_told : (a : Awaited) (asked : Asked) (items : List Item) → given a (telling asked ∷ items) ≡ given (awaiting (kind_of asked) none) items
unfolding given
given_told a asked items = refl

-- where a line stands: between reports, inside one, or where this of a reply is awaited, whose bytes are of this sort
pub data Place : Type 0 where
  between : Place
  inside : Place
  in_reply : Awaited → Bool → Place

abbrev pub awaited_at : Place → Awaited
awaited_at between = nothing
awaited_at inside = nothing
awaited_at (in_reply a letters) = a

module _ {R : Type 0} (F : Frame R) where
  -- a line with its replies, item by item
  pub data Way : Place → List Item → Type 0 where
    ends : {p : Place} → Way p []
    pauses : {items : List Item} → Way between items → Way between (word silence ∷ items)
    breaks : {p : Place} {items : List Item} → Way between items → Way p (word break ∷ items)
    begins : {b : ℕ} {items : List Item} → F.fits [] b ≡ true → Way inside items → Way between (word b ∷ items)
    goes_on : {b : ℕ} {items : List Item} → Way inside items → Way inside (word b ∷ items)
    ends_report : {b : ℕ} {items : List Item} → Way between items → Way inside (word b ∷ items)
    tells : {asked : Asked} {letters : Bool} {items : List Item} → Way (in_reply (awaiting (kind_of asked) none) letters) items → Way between (telling asked ∷ items)
    replies : {a : Awaited} {letters : Bool} {b : ℕ} {items : List Item} → continues a b ≡ true → OfSort letters b → finishes a ≡ false
        → Way (in_reply (more a b) letters) items
        → Way (in_reply a letters) (word b ∷ items)
    ends_reply : {a : Awaited} {letters : Bool} {b : ℕ} {items : List Item} → continues a b ≡ true → OfSort letters b → finishes a ≡ true
        → Way between items
        → Way (in_reply a letters) (word b ∷ items)

  -- behind words that are lost
  record Skipped (words : List ℕ) (items : List Item) : Type 0 where
    place : Place
    way : Way place items
    lost : List ℕ
    is : words ≡ lost ++ given (awaited_at place) items

  one_more_lem : {words all : List ℕ} {items : List Item} (w : ℕ) → all ≡ w ∷ words → Skipped words items → Skipped all items
  one_more_lem w e x = record { place = x.place; way = x.way; lost = w ∷ x.lost; is = e ∙ ap (λ (l : List ℕ). w ∷ l) x.is }

  skip : {p : Place} (lost : List ℕ) (items : List Item) → Way p (as_items lost ++ items) → Skipped (given (awaited_at p) (as_items lost ++ items)) items
  skip {p = p} [] items l = record { place = p; way = l; lost = []; is = refl }
  skip {p = between} (w ∷ lost) items (pauses l) = one_more_lem silence (given_past nothing silence (as_items lost ++ items) refl) (skip {p = between} lost items l)
  skip {p = p} (w ∷ lost) items (breaks l) = one_more_lem break (given_past (awaited_at p) break (as_items lost ++ items) refl) (skip {p = between} lost items l)
  skip {p = between} (w ∷ lost) items (begins h l) = one_more_lem w (given_word w (as_items lost ++ items)) (skip {p = inside} lost items l)
  skip {p = inside} (w ∷ lost) items (goes_on l) = one_more_lem w (given_word w (as_items lost ++ items)) (skip {p = inside} lost items l)
  skip {p = inside} (w ∷ lost) items (ends_report l) = one_more_lem w (given_word w (as_items lost ++ items)) (skip {p = between} lost items l)
  skip {p = p} (w ∷ lost) items (replies {a = a} {letters = letters} {b = b} h o e l) = rw (given_more (awaited_at p) w (as_items lost ++ items) h e) (skip {p = in_reply (more a b) letters} lost items l)
  skip {p = p} (w ∷ lost) items (ends_reply h o e l) = rw (given_last (awaited_at p) w (as_items lost ++ items) h e) (skip {p = between} lost items l)

  -- of the words `all` a reader at s hands out what one at t hands out of other words, which are what is left of
  -- `words` on which all damage shows
  pub record Erased (s t : State) (all words : List ℕ) : Type 0 where
    pub rest : List ℕ
    pub shown : Shown F.marked rest words
    pub same_read : read F s all ≡ read F t rest

-- The frame's laws, and one more: of two bytes of one sort, as they stand in a reply, the second does not go on with a
-- report that the first begins.
module _ {R : Type 0} (F : Frame R) (L : Laws F) (M : F.marked ≡ true → Marked F)
    (N : F.marked ≡ true → (letters : Bool) (b c : ℕ) → OfSort letters b → OfSort letters c → F.fits [] b ≡ true → F.fits (b ∷ []) c ≡ false) where
  -- a break, a silence, and one word to two readers that are alike
  at_break : (s : State) (ds : List ℕ) → read F s (break ∷ ds) ≡ read F (fresh F) ds
  unfolding move_of
  at_break s ds = passes F (length (kept s)) s break ds refl

  at_silence : (s : State) (ds : List ℕ) → read F s (silence ∷ ds) ≡ read F (has []) ds
  at_silence s ds = passes F (length (kept s)) s silence ds (quiet F s)

  first_same : (x : Answer R) (l k : List (Answer R)) → reports l ≡ reports k → reports (x ∷ l) ≡ reports (x ∷ k)
  first_same frame.nothing l k e = e
  first_same (report r) l k e = ap (λ (y : List R). r ∷ y) e
  first_same (dropped n) l k e = e

  at_word : (s : State) (w : ℕ) (ds es : List ℕ) → read F (step F s w).0 ds ≡ read F (step F s w).0 es → read F s (w ∷ ds) ≡ read F s (w ∷ es)
  at_word s w ds es e = first_same (step F s w).1 (answers F (step F s w).0 ds) (answers F (step F s w).0 es) e

  -- a first byte, to a reader that has nothing, and to one that has a stray
  at_first : (b : ℕ) (ds : List ℕ) → F.fits [] b ≡ true → read F (has []) (b ∷ ds) ≡ read F (has (b ∷ [])) ds
  unfolding move_of
  at_first b ds h =
      let l : b < 256 = L.byte [] b h in
      passes F 0 (has []) b ds (rw (ne_eqb b 257 (λ e. omega arith), ne_eqb b 256 (λ e. omega arith), h, ne_eqb 1 (F.size b) (λ e. omega (arith, L.long b h))))

  at_start : (a b : ℕ) (ds : List ℕ) → F.marked ≡ true → F.fits [] b ≡ true → read F (has (a ∷ [])) (b ∷ ds) ≡ read F (has (b ∷ [])) ds
  unfolding move_of
  at_start a b ds m h =
      let l : b < 256 = L.byte [] b h in
      passes F 1 (has (a ∷ [])) b ds (rw (ne_eqb b 257 (λ e. omega arith), ne_eqb b 256 (λ e. omega arith), (M m).first_only a [] b h, m, h))

  -- a byte that is neither the first nor the next; and one to a reader that waits
  at_bad : (a b : ℕ) (ds : List ℕ) → F.marked ≡ true → b < 256 → F.fits (a ∷ []) b ≡ false → F.fits [] b ≡ false → read F (has (a ∷ [])) (b ∷ ds) ≡ read F (fresh F) ds
  unfolding move_of
  at_bad a b ds m l n h = passes F 2 (has (a ∷ [])) b ds (rw (ne_eqb b 257 (λ e. omega arith), ne_eqb b 256 (λ e. omega arith), n, m, h))

  at_none : (b : ℕ) (ds : List ℕ) → F.marked ≡ true → b < 256 → F.fits [] b ≡ false → read F (fresh F) (b ∷ ds) ≡ read F (fresh F) ds
  unfolding move_of
  at_none b ds m l h = passes F 1 (fresh F) b ds (rw (ne_eqb b 257 (λ e. omega arith), ne_eqb b 256 (λ e. omega arith), m, h))

  at_waiting : (b : ℕ) (ds : List ℕ) → F.marked ≡ false → b < 256 → read F (fresh F) (b ∷ ds) ≡ read F (fresh F) ds
  unfolding move_of
  at_waiting b ds m l = passes F 1 (fresh F) b ds (rw (ne_eqb b 257 (λ e. omega arith), ne_eqb b 256 (λ e. omega arith), m))

  -- in a marked format a fresh reader has nothing
  as_fresh : F.marked ≡ true → (ds : List ℕ) → read F (has []) ds ≡ read F (fresh F) ds
  as_fresh m ds = rw m

  no_item : {s t : State} (a c : Awaited) → Erased F s t (given a []) (given c [])
  unfolding given
  no_item a c = record { rest = []; shown = damage.whole; same_read = refl }

  -- one word more: a break, a silence that stays, is left out or comes in, and any other word
  scarred : {s t : State} (lost : List ℕ) {ds words : List ℕ} → Erased F (fresh F) (fresh F) ds words → Erased F s t (break ∷ ds) (lost ++ words)
  scarred {s} {t} lost {ds} e =
      record { rest = break ∷ e.rest; shown = damage.scar lost e.shown; same_read = at_break s ds ∙ (e.same_read ∙ sym (at_break t e.rest)) }

  paused : {s t : State} {ds words : List ℕ} → Erased F (has []) (has []) ds words → Erased F s t (silence ∷ ds) (silence ∷ words)
  paused {s} {t} {ds} e =
      record { rest = silence ∷ e.rest; shown = damage.stays e.shown; same_read = at_silence s ds ∙ (e.same_read ∙ sym (at_silence t e.rest)) }

  left_out : {s t : State} {ds words : List ℕ} → Erased F s t ds words → Erased F s t ds (silence ∷ words)
  left_out e = record { rest = e.rest; shown = damage.unheard e.shown; same_read = e.same_read }

  came_in : {s t : State} {ds words : List ℕ} → F.marked ≡ true → Erased F (fresh F) (fresh F) ds words → Erased F s t (silence ∷ ds) words
  came_in {s} {t} {ds} m e =
      record {
        rest = silence ∷ e.rest;
        shown = damage.comes_in m e.shown;
        same_read = at_silence s ds ∙ (as_fresh m ds ∙ (e.same_read ∙ sym (at_silence t e.rest ∙ as_fresh m e.rest)));
      }

  alike : (s : State) (w : ℕ) {ds words : List ℕ} → Erased F (step F s w).0 (step F s w).0 ds words → Erased F s s (w ∷ ds) (w ∷ words)
  alike s w {ds} e = record { rest = w ∷ e.rest; shown = damage.stays e.shown; same_read = at_word s w ds e.rest e.same_read }

  anew : (a b : ℕ) {ds words : List ℕ} → F.marked ≡ true → F.fits [] b ≡ true → Erased F (has (b ∷ [])) (has (b ∷ [])) ds words
      → Erased F (has (a ∷ [])) (has []) (b ∷ ds) (b ∷ words)
  anew a b {ds} m h e =
      record { rest = b ∷ e.rest; shown = damage.stays e.shown; same_read = at_start a b ds m h ∙ (e.same_read ∙ sym (at_first b e.rest h)) }

  -- and a byte of a reply that was broken: it is dropped, or is a stray now
  missing : (b : ℕ) {ds words : List ℕ} → b < 256 → Erased F (fresh F) (fresh F) ds words
      → (F.marked ≡ true → F.fits [] b ≡ true → Erased F (has (b ∷ [])) (has []) ds words)
      → Erased F (fresh F) (fresh F) (b ∷ ds) words
  missing b {ds} {words} l e k = go F.marked refl (F.fits [] b) refl
    where
      go : (t : Bool) → F.marked ≡ t → (u : Bool) → F.fits [] b ≡ u → Erased F (fresh F) (fresh F) (b ∷ ds) words
      go true m true h =
          let x = k m h in
          record { rest = x.rest; shown = x.shown; same_read = sym (as_fresh m (b ∷ ds)) ∙ (at_first b ds h ∙ (x.same_read ∙ as_fresh m x.rest)) }
      go true m false h = record { rest = e.rest; shown = e.shown; same_read = at_none b ds m l h ∙ e.same_read }
      go false m u h = record { rest = e.rest; shown = e.shown; same_read = at_waiting b ds m l ∙ e.same_read }

  missing_more : (a b : ℕ) {ds words : List ℕ} → b < 256 → F.marked ≡ true → F.fits (a ∷ []) b ≡ false → Erased F (fresh F) (fresh F) ds words
      → (F.fits [] b ≡ true → Erased F (has (b ∷ [])) (has []) ds words)
      → Erased F (has (a ∷ [])) (has []) (b ∷ ds) words
  missing_more a b {ds} {words} l m n e k = go (F.fits [] b) refl
    where
      go : (u : Bool) → F.fits [] b ≡ u → Erased F (has (a ∷ [])) (has []) (b ∷ ds) words
      go true h = let x = k h in record { rest = x.rest; shown = x.shown; same_read = at_start a b ds m h ∙ x.same_read }
      go false h = record { rest = e.rest; shown = e.shown; same_read = at_bad a b ds m l n h ∙ (e.same_read ∙ sym (as_fresh m e.rest)) }

  -- A reader of the line, and one that is given no byte of a reply: they are alike, or the one has a stray.
  pub data Close : State → State → Type 0 where
    same : {s : State} → Close s s
    stray : {b : ℕ} → F.marked ≡ true → F.fits [] b ≡ true → Close (has (b ∷ [])) (has [])

  -- where the line stands so, and this is awaited: inside a report they are alike; a reply is awaited as it is sent, or
  -- was broken
  pub data Near : Awaited → State → State → Place → Type 0 where
    outside : {s t : State} → Close s t → Near nothing s t between
    within : {s : State} → Near nothing s s inside
    awaits : {s t : State} {a : Awaited} {letters : Bool} → Close s t → Near a s t (in_reply a letters)
    missed : {a : Awaited} {letters : Bool} → Near nothing (fresh F) (fresh F) (in_reply a letters)
    missed_one : {b : ℕ} {a : Awaited} {letters : Bool} → F.marked ≡ true → F.fits [] b ≡ true → OfSort letters b → Near nothing (has (b ∷ [])) (has []) (in_reply a letters)

  broken_near : (p : Place) → Near nothing (fresh F) (fresh F) p
  broken_near between = outside same
  broken_near inside = within
  broken_near (in_reply a letters) = missed

  small : (letters : Bool) (b : ℕ) → OfSort letters b → b < 256
  small true b o = omega arith
  small false b o = omega arith

  -- what is to be shown of the items behind one
  abbrev Behind : List Item → List Item → Type 0
  Behind left items = (p : Place) (a : Awaited) (s t : State) → Way F p items → Near a s t p → Erased F s t (given a left) (given (awaited_at p) items)

  module _ (ds is : List Item) (later : Behind ds is) where
    -- an item that stays: the first byte of a report, and another
    first_byte : {a : Awaited} {s t : State} (b : ℕ) → F.fits [] b ≡ true → Way F inside is → Near a s t between
        → Erased F s t (given a (word b ∷ ds)) (given nothing (word b ∷ is))
    first_byte {s = s} b h l (outside same) = rw (given_word b ds, given_word b is) (alike s b (later inside nothing (step F s b).0 (step F s b).0 l within))
    first_byte b h l (outside (stray {b = c} m k)) = rw (given_word b ds, given_word b is) (anew c b m h (later inside nothing (has (b ∷ [])) (has (b ∷ [])) l within))

    next_byte_lem : {a : Awaited} {s t : State} (b : ℕ) → ((s : State) → Erased F s s (given nothing ds) (given nothing is)) → Near a s t inside
        → Erased F s t (given a (word b ∷ ds)) (given nothing (word b ∷ is))
    next_byte_lem {s = s} b e within = rw (given_word b ds, given_word b is) (alike s b (e (step F s b).0))

    -- a telling
    told : {a : Awaited} {s t : State} (asked : Asked) {letters : Bool} → Way F (in_reply (awaiting (kind_of asked) none) letters) is → Near a s t between
        → Erased F s t (given a (telling asked ∷ ds)) (given nothing (telling asked ∷ is))
    told {s = s} {t} asked {letters} l (outside c) =
        rw (given_told nothing asked ds, given_told nothing asked is) (later (in_reply (awaiting (kind_of asked) none) letters) (awaiting (kind_of asked) none) s t l (awaits c))

    -- a byte of a reply, behind which the line stands at q
    module _ (q : Place) (l : Way F q is) {a : Awaited} {letters : Bool} (b : ℕ) (o : OfSort letters b)
        (next : (items : List Item) → given a (word b ∷ items) ≡ given (awaited_at q) items)
        (keeps : (s t : State) → Close s t → Near (awaited_at q) s t q)
        (strays : F.marked ≡ true → F.fits [] b ≡ true → Near nothing (has (b ∷ [])) (has []) q) where
      reply_byte : {c : Awaited} {s t : State} → Near c s t (in_reply a letters) → Erased F s t (given c (word b ∷ ds)) (given a (word b ∷ is))
      reply_byte {s = s} {t} (awaits c) = rw (next ds, next is) (later q (awaited_at q) s t l (keeps s t c))
      reply_byte missed =
          rw (given_word b ds, next is)
          (missing b (small letters b o) (later q nothing (fresh F) (fresh F) l (broken_near q)) (λ m k. later q nothing (has (b ∷ [])) (has []) l (strays m k)))
      reply_byte (missed_one {b = c} m k r) =
          rw (given_word b ds, next is)
          (missing_more c b (small letters b o) m (N m letters c b r o k) (later q nothing (fresh F) (fresh F) l (broken_near q))
          (λ k. later q nothing (has (b ∷ [])) (has []) l (strays m k)))

    stayed : (i : Item) {p : Place} {a : Awaited} {s t : State} → Way F p (i ∷ is) → Near a s t p → Erased F s t (given a (i ∷ ds)) (given (awaited_at p) (i ∷ is))
    stayed i {a = a} (pauses l) n =
        rw (given_past a silence ds refl, given_past nothing silence is refl) (paused (later between nothing (has []) (has []) l (outside same)))
    stayed i {p} {a} (breaks l) n =
        rw (given_past a break ds refl, given_past (awaited_at p) break is refl) (scarred (break ∷ []) (later between nothing (fresh F) (fresh F) l (outside same)))
    stayed i (begins {b = b} h l) n = first_byte b h l n
    stayed i (goes_on {b = b} l) n = next_byte_lem b (λ s. later inside nothing s s l within) n
    stayed i (ends_report {b = b} l) n = next_byte_lem b (λ s. later between nothing s s l (outside same)) n
    stayed i (tells {asked = asked} l) n = told asked l n
    stayed i (replies {a = a} {letters = letters} {b = b} h o e l) n =
        reply_byte (in_reply (more a b) letters) l b o (λ items. given_more a b items h e) (λ s t c. awaits c) (λ m k. missed_one m k o) n
    stayed i (ends_reply {a = a} {b = b} h o e l) n = reply_byte between l b o (λ items. given_last a b items h e) (λ s t c. outside c) (λ m k. outside (stray m k)) n

    -- a silence that is left out
    over : {a : Awaited} {s t : State} → Near a s t inside → Near a s t between
    over within = outside same

    unheard_one : {p : Place} {a : Awaited} {s t : State} → Way F p (word silence ∷ is) → Near a s t p → Erased F s t (given a ds) (given (awaited_at p) (word silence ∷ is))
    unheard_one {a = a} {s} {t} (pauses l) n = rw (given_past nothing silence is refl) (left_out (later between a s t l n))
    unheard_one (begins h l) n = absurd (omega (arith, L.byte [] silence h))
    unheard_one {a = a} {s} {t} (goes_on l) n = rw (given_past nothing silence is refl) (left_out (later inside a s t l n))
    unheard_one {a = a} {s} {t} (ends_report l) n = rw (given_past nothing silence is refl) (left_out (later between a s t l (over n)))
    unheard_one (replies h o e l) n = absurd (holds h)
    unheard_one (ends_reply h o e l) n = absurd (holds h)

  pub erased : {left items : List Item} → ShownItems F.marked left items → (p : Place) (a : Awaited) (s t : State) → Way F p items → Near a s t p
      → Erased F s t (given a left) (given (awaited_at p) items)
  erased whole p a s t l n = no_item a (awaited_at p)
  erased (stays {i = i} {left = ds} {items = is} d) p a s t l n = stayed ds is (λ p a s t l n. erased d p a s t l n) i l n
  erased (unheard {left = ds} {items = is} d) p a s t l n = unheard_one ds is (λ p a s t l n. erased d p a s t l n) l n
  erased (scar lost {left = ds} {items = is} d) p a s t l n =
      let x = skip F lost is l in
      rw (given_past a break ds refl, x.is) (scarred x.lost (erased d x.place nothing (fresh F) (fresh F) x.way (broken_near x.place)))
  erased (comes_in {left = ds} m d) p a s t l n = rw (given_past a silence ds refl) (came_in m (erased d p nothing (fresh F) (fresh F) l (broken_near p)))
