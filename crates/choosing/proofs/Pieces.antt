-- The pieces of a line: their runs are the earliest choice, every byte of the line is in exactly one, and no bytes left out begin where others end.
use Prim.Native.Nat.{ℕ, zero, suc, ◌+◌, ◌-◌, ◌<◌, ◌≤◌}
use mathlib.Core.Path.{◌≡◌, refl, sym, ap, ◌∙◌}
use mathlib.Core.Bool.{Bool, true, false, cond, ◌&&◌}
use mathlib.Core.List.{List, [], ◌∷◌, ◌++◌, append_assoc, append-nil}
use native.Mathlib.Omega.{arith}
use lib.ListN.{length, take, length-append}
use lib.Dec.{leb}
use borrow.Author.Tests.{leb-true}
use Rattle.numbers.proofs.Tested.{left, right}
use Rattle.frames.specs.Words.{is_byte}
use Rattle.choosing.specs.Choice.{all_bytes}
use Rattle.choosing.specs.Earliest.{starts, earliest_from, earliest}
use Rattle.choosing.specs.Pieces as piece
use Rattle.choosing.specs.Pieces.{Piece, up_from, byte_places, picked_in, Ends, Longest, places_in, Falls, behind, pieces_from, pieces}

picked_append : (a b : List Piece) → picked_in (a ++ b) ≡ picked_in a ++ picked_in b
unfolding picked_in
picked_append [] b = refl
picked_append (piece.picked s ∷ a) b = ap (λ (l : List ℕ). s ∷ l) (picked_append a b)
picked_append (piece.left x n ∷ a) b = picked_append a b

-- one place more, at the end
up_more : (place n : ℕ) → up_from place (suc n) ≡ up_from place n ++ (place + n) ∷ []
unfolding up_from
up_more place zero = let e : place + 0 ≡ place = omega arith in rw e
up_more place (suc n) = let e : suc place + n ≡ place + suc n = omega arith in ap (λ (l : List ℕ). place ∷ l) (rw e at (up_more (suc place) n))

-- and before a list, the last of the places being one before a place
up_behind : (place n : ℕ) (l : List ℕ) → n ≤ place → up_from (suc place - suc n) (suc n) ++ l ≡ up_from (place - n) n ++ place ∷ l
up_behind place n l h =
    let from : suc place - suc n ≡ place - n = omega arith in
    let last : place - n + n ≡ place = omega arith in
    rw (from, up_more (place - n) n, last, append_assoc)

module _ (size : ℕ) (valid : List ℕ → Bool) where
  placed_append : (a b : List Piece) → places_in size valid (a ++ b) ≡ places_in size valid a ++ places_in size valid b
  unfolding places_in
  placed_append [] b = refl
  placed_append (p ∷ a) b = ap (λ (l : List ℕ). piece.places_of size valid p ++ l) (placed_append a b) ∙ sym (append_assoc (piece.places_of size valid p) (places_in size valid a) (places_in size valid b))

  -- what is behind a place holds no run, and so many places
  no_run : (place n : ℕ) → picked_in (behind size valid place n) ≡ []
  unfolding picked_in
  no_run place zero = refl
  no_run place (suc n) = refl

  behind_placed : (place n : ℕ) → places_in size valid (behind size valid place n) ≡ up_from (place - n) n
  unfolding places_in up_from
  behind_placed place zero = refl
  behind_placed place (suc n) = append-nil (up_from (place - suc n) (suc n))

  -- bytes left out, and then pieces that begin with no others
  behind_longest : (place n : ℕ) (l : List Piece) → n ≤ place → Ends place l → Longest l → Longest (behind size valid place n ++ l)
  unfolding Longest
  behind_longest place zero l h e r = r
  behind_longest place (suc n) l h e r = let k : place - suc n + suc n ≡ place = omega arith in (omega arith, rw k e, r)

  behind_ends : (at place n : ℕ) (l : List Piece) → at < place - n → Ends at l → Ends at (behind size valid place n ++ l)
  behind_ends at place zero l h e = e
  behind_ends at place (suc n) l h e = h

  picked_earliest : (place taken n : ℕ) (words : List ℕ) → picked_in (pieces_from size valid place taken n words) ≡ earliest_from size valid place taken words
  unfolding pieces_from earliest_from picked_in
  picked_earliest place taken n [] = no_run place n
  picked_earliest place (suc taken) n (w ∷ words) = picked_earliest (suc place) taken n words
  picked_earliest place zero n (w ∷ words) =
      go (starts size valid (w ∷ words)) refl (is_byte w) refl (λ k m. picked_earliest (suc place) k m words)
    where
      go : (t : Bool) → starts size valid (w ∷ words) ≡ t → (u : Bool) → is_byte w ≡ u
          → ((k m : ℕ) → picked_in (pieces_from size valid (suc place) k m words) ≡ earliest_from size valid (suc place) k words)
          → picked_in (pieces_from size valid place 0 n (w ∷ words)) ≡ earliest_from size valid place 0 (w ∷ words)
      go true e u f r =
          rw (e, picked_append (behind size valid place n) (piece.picked place ∷ pieces_from size valid (suc place) (size - 1) 0 words), no_run place n)
          (ap (λ (l : List ℕ). place ∷ l) (r (size - 1) 0))
      go false e true f r = rw (e, f) (r 0 (suc n))
      go false e false f r =
          rw (e, f, picked_append (behind size valid place n) (pieces_from size valid (suc place) 0 0 words), no_run place n) (r 0 0)

  ends_later : (at place taken n : ℕ) (words : List ℕ) → at < place - n → Ends at (pieces_from size valid place taken n words)
  unfolding pieces_from
  ends_later at place taken zero [] h = tt
  ends_later at place taken (suc n) [] h = h
  ends_later at place (suc taken) n (w ∷ words) h = ends_later at (suc place) taken n words (omega arith)
  ends_later at place zero n (w ∷ words) h = go (starts size valid (w ∷ words)) refl (is_byte w) refl (λ m k. ends_later at (suc place) 0 m words k)
    where
      go : (t : Bool) → starts size valid (w ∷ words) ≡ t → (u : Bool) → is_byte w ≡ u → ((m : ℕ) → at < suc place - m → Ends at (pieces_from size valid (suc place) 0 m words))
          → Ends at (pieces_from size valid place 0 n (w ∷ words))
      go true e u f r = rw e (behind_ends at place n (piece.picked place ∷ pieces_from size valid (suc place) (size - 1) 0 words) h tt)
      go false e true f r = rw (e, f) (r (suc n) (omega arith))
      go false e false f r = rw (e, f) (behind_ends at place n (pieces_from size valid (suc place) 0 0 words) h (r 0 (omega arith)))

  all_longest : (place taken n : ℕ) (words : List ℕ) → n ≤ place → Longest (pieces_from size valid place taken n words)
  unfolding pieces_from Longest
  all_longest place taken zero [] h = tt
  all_longest place taken (suc n) [] h = (omega arith, tt, tt)
  all_longest place (suc taken) n (w ∷ words) h = all_longest (suc place) taken n words (omega arith)
  all_longest place zero n (w ∷ words) h = go (starts size valid (w ∷ words)) refl (is_byte w) refl (λ k m l. all_longest (suc place) k m words l)
    where
      go : (t : Bool) → starts size valid (w ∷ words) ≡ t → (u : Bool) → is_byte w ≡ u → ((k m : ℕ) → m ≤ suc place → Longest (pieces_from size valid (suc place) k m words))
          → Longest (pieces_from size valid place 0 n (w ∷ words))
      go true e u f r = rw e (behind_longest place n (piece.picked place ∷ pieces_from size valid (suc place) (size - 1) 0 words) h tt (r (size - 1) 0 (omega arith)))
      go false e true f r = rw (e, f) (r 0 (suc n) (omega arith))
      go false e false f r =
          rw (e, f)
          (behind_longest place n (pieces_from size valid (suc place) 0 0 words) h (ends_later place (suc place) 0 0 words (omega arith)) (r 0 0 (omega arith)))

  -- where a run starts, its first word is a byte, and the others follow
  record Begun (w : ℕ) (words : List ℕ) : Type 0 where
    byte : is_byte w ≡ true
    within : size - 1 ≤ length words
    bytes : all_bytes (take (size - 1) words) ≡ true

  begun : 1 ≤ size → (w : ℕ) (words : List ℕ) → starts size valid (w ∷ words) ≡ true → Begun w words
  unfolding starts all_bytes
  begun some w words e =
      let more : size ≡ suc (size - 1) = omega arith in
      let b = take size (w ∷ words) in
      let t = left (leb size (length (w ∷ words)) && all_bytes b) (valid b) e in
      let a : all_bytes (take (suc (size - 1)) (w ∷ words)) ≡ true = rw more at (right (leb size (length (w ∷ words))) (all_bytes b) t) in
      record {
        byte = left (is_byte w) (all_bytes (take (size - 1) words)) a;
        within = omega (arith, leb-true size (length (w ∷ words)) (left (leb size (length (w ∷ words))) (all_bytes b) t));
        bytes = right (is_byte w) (all_bytes (take (size - 1) words)) a;
      }

  -- a run is its first place, and those behind it
  run_placed : 1 ≤ size → (place : ℕ) (l : List Piece) → places_in size valid (piece.picked place ∷ l) ≡ place ∷ (up_from (suc place) (size - 1) ++ places_in size valid l)
  unfolding places_in up_from
  run_placed some place l = let more : size ≡ suc (size - 1) = omega arith in ap (λ (n : ℕ). up_from place n ++ places_in size valid l) more

  -- the places of words that belong to a run, then those of the pieces: the places of the bytes left out before, then those of the bytes
  all_placed : 1 ≤ size → (place taken n : ℕ) (words : List ℕ) → n ≤ place → (1 ≤ taken → n ≡ 0) → taken ≤ length words → all_bytes (take taken words) ≡ true
      → up_from place taken ++ places_in size valid (pieces_from size valid place taken n words) ≡ up_from (place - n) n ++ byte_places place words
  unfolding pieces_from up_from byte_places all_bytes
  all_placed some place zero n [] h z l b = behind_placed place n ∙ sym (append-nil (up_from (place - n) n))
  all_placed some place (suc taken) n [] h z l b = absurd (omega arith)
  all_placed some place (suc taken) n (w ∷ words) h z l b =
      let n0 : n ≡ 0 = z (omega arith) in
      let byte : is_byte w ≡ true = left (is_byte w) (all_bytes (take taken words)) b in
      rw (n0, byte)
      (ap (λ (l : List ℕ). place ∷ l)
      (all_placed some (suc place) taken 0 words (omega arith) (λ k. refl) (omega arith) (right (is_byte w) (all_bytes (take taken words)) b)))
  all_placed some place zero n (w ∷ words) h z l b =
      go (starts size valid (w ∷ words)) refl (is_byte w) refl (λ k m l z b c. all_placed some (suc place) k m words l z b c)
    where
      go : (t : Bool) → starts size valid (w ∷ words) ≡ t → (u : Bool) → is_byte w ≡ u
          → ((k m : ℕ) → m ≤ suc place → (1 ≤ k → m ≡ 0) → k ≤ length words → all_bytes (take k words) ≡ true
          → up_from (suc place) k ++ places_in size valid (pieces_from size valid (suc place) k m words) ≡ up_from (suc place - m) m ++ byte_places (suc place) words)
          → places_in size valid (pieces_from size valid place 0 n (w ∷ words)) ≡ up_from (place - n) n ++ byte_places place (w ∷ words)
      go true e u f r =
          let run = begun some w words e in
          let rest = pieces_from size valid (suc place) (size - 1) 0 words in
          rw (e, placed_append (behind size valid place n) (piece.picked place ∷ rest), behind_placed place n, run_placed some place rest, run.byte)
          (ap (λ (l : List ℕ). up_from (place - n) n ++ place ∷ l) (r (size - 1) 0 (omega arith) (λ k. refl) run.within run.bytes))
      go false e true f r =
          rw (e, f) (r 0 (suc n) (omega arith) (λ k. absurd (omega arith)) (omega arith) refl ∙ up_behind place n (byte_places (suc place) words) h)
      go false e false f r =
          rw (e, f, placed_append (behind size valid place n) (pieces_from size valid (suc place) 0 0 words), behind_placed place n)
          (ap (λ (l : List ℕ). up_from (place - n) n ++ l) (r 0 0 (omega arith) (λ k. refl) (omega arith) refl))

  pub falls : 1 ≤ size → (words : List ℕ) → Falls size valid words (earliest size valid words) (pieces size valid words)
  unfolding up_from all_bytes
  falls some words =
      record {
        runs = picked_earliest 0 0 0 words;
        each_byte = all_placed some 0 0 0 words (omega arith) (λ k. refl) (omega arith) refl;
        longest = all_longest 0 0 0 words (omega arith);
      }

  -- no more pieces than words
  places_long : (place n : ℕ) → length (up_from place n) ≡ n
  unfolding up_from
  places_long place zero = refl
  places_long place (suc n) = ap suc (places_long (suc place) n)

  bytes_long : (place : ℕ) (words : List ℕ) → length (byte_places place words) ≤ length words
  unfolding byte_places
  bytes_long place [] = omega arith
  bytes_long place (w ∷ words) = go (is_byte w) (bytes_long (suc place) words)
    where
      go : (t : Bool) → length (byte_places (suc place) words) ≤ length words → length (cond t (place ∷ []) [] ++ byte_places (suc place) words) ≤ suc (length words)
      go true h = omega arith
      go false h = omega arith

  few_places : 1 ≤ size → (l : List Piece) → Longest l → length l ≤ length (places_in size valid l)
  unfolding places_in Longest
  few_places some [] h = omega arith
  few_places some (piece.picked s ∷ l) h = omega (arith, few_places some l h, places_long s size, length-append (up_from s size) (places_in size valid l))
  few_places some (piece.left a n ∷ l) h = omega (arith, h.0, few_places some l h.2, places_long a n, length-append (up_from a n) (places_in size valid l))

  pub few_pieces : 1 ≤ size → (words : List ℕ) → length (pieces size valid words) ≤ length words
  few_pieces some words =
      let f = falls some words in
      omega (arith, few_places some (pieces size valid words) f.longest, ap length f.each_byte, bytes_long 0 words)
