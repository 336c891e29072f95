-- A walk through a line from left to right: at each place a run starts, or a byte is left out, or a 256 or 257 is passed.
use Prim.Native.Nat.{ℕ, zero, suc, ◌+◌, ◌-◌, ◌<◌, ◌≤◌}
use mathlib.Core.Path.{◌≡◌, refl, ap, ◌∙◌}
use mathlib.Core.Bool.{Bool, true, false, cond, ◌&&◌}
use mathlib.Core.List.{List, [], ◌∷◌, ◌++◌}
use native.Mathlib.Omega.{arith}
use native.Mathlib.Numerals.{add-one}
use lib.ListN.{length, take, drop, get_or, drop_of_length-le, length-drop}
use lib.Seq.{drop-cons, drop-drop, take-add, take-suc, length-take-le}
use lib.Dec.{leb}
use borrow.Author.Tests.{leb-true}
use Rattle.numbers.proofs.Tested.{left, right}
use Rattle.frames.specs.Words.{is_byte}
use Rattle.choosing.specs.Choice.{all_bytes, bytes_in}
use Rattle.choosing.specs.Earliest.{starts, earliest_from}
use Rattle.choosing.specs.Pieces as piece
use Rattle.choosing.specs.Pieces.{behind, pieces_from}
use Rattle.choosing.proofs.Left.{bytes_append, all_counted}

-- the bytes of one word more
pub word_counted : (words : List ℕ) (at : ℕ) → at < length words → bytes_in (take (at + 1) words) ≡ bytes_in (take at words) + cond (is_byte (get_or words at 0)) 1 0
unfolding bytes_in
word_counted words at h =
    rw (add-one, take-suc words at 0 h) (bytes_append (take at words) (get_or words at 0 ∷ []) ∙ omega arith)

module _ (size : ℕ) (valid : List ℕ → Bool) where
  -- words that belong to a run are passed over
  skipped : (place taken q : ℕ) (words : List ℕ) → place + taken ≡ q → earliest_from size valid place taken words ≡ earliest_from size valid q 0 (drop taken words)
  unfolding earliest_from
  skipped place zero q words e = let h : place ≡ q = omega arith in rw h
  skipped place (suc taken) q [] e = refl
  skipped place (suc taken) q (w ∷ words) e = skipped (suc place) taken q words (omega arith)

  pieces_skipped : (place taken q : ℕ) (words : List ℕ) → place + taken ≡ q → pieces_from size valid place taken 0 words ≡ pieces_from size valid q 0 0 (drop taken words)
  unfolding pieces_from
  pieces_skipped place zero q words e = let h : place ≡ q = omega arith in rw h
  pieces_skipped place (suc taken) q [] e = refl
  pieces_skipped place (suc taken) q (w ∷ words) e = pieces_skipped (suc place) taken q words (omega arith)

  module _ (words : List ℕ) (at : ℕ) (h : at < length words) where
    -- the words behind a run that starts at a place
    rest : 1 ≤ size → drop (size - 1) (drop (suc at) words) ≡ drop (at + size) words
    rest some = let e : suc at + (size - 1) ≡ at + size = omega arith in drop-drop (size - 1) (suc at) words ∙ ap (λ (n : ℕ). drop n words) e

    -- a run starts
    module _ (some : 1 ≤ size) (e : starts size valid (drop at words) ≡ true) where
      pub picks : earliest_from size valid at 0 (drop at words) ≡ at ∷ earliest_from size valid (at + size) 0 (drop (at + size) words)
      unfolding earliest_from
      picks =
          let d = drop-cons words at 0 h in
          let k : starts size valid (get_or words at 0 ∷ drop (suc at) words) ≡ true = rw d at e in
          rw (d, k, skipped (suc at) (size - 1) (at + size) (drop (suc at) words) (omega arith), rest some)

      pub pieces_picks : (n : ℕ) → pieces_from size valid at 0 n (drop at words) ≡ behind size valid at n ++ piece.picked at ∷ pieces_from size valid (at + size) 0 0 (drop (at + size) words)
      unfolding pieces_from
      pieces_picks n =
          let d = drop-cons words at 0 h in
          let k : starts size valid (get_or words at 0 ∷ drop (suc at) words) ≡ true = rw d at e in
          rw (d, k, pieces_skipped (suc at) (size - 1) (at + size) (drop (suc at) words) (omega arith), rest some)

      whole : leb size (length (drop at words)) && all_bytes (take size (drop at words)) ≡ true
      unfolding starts
      whole = left (leb size (length (drop at words)) && all_bytes (take size (drop at words))) (valid (take size (drop at words))) e

      pub reaches : at + size ≤ length words
      reaches =
          let l = leb-true size (length (drop at words)) (left (leb size (length (drop at words))) (all_bytes (take size (drop at words))) whole) in
          omega (arith, length-drop at words)

      pub run_counted : bytes_in (take (at + size) words) ≡ bytes_in (take at words) + size
      run_counted =
          let b = all_counted (take size (drop at words)) (right (leb size (length (drop at words))) (all_bytes (take size (drop at words))) whole) in
          let l = length-take-le size (drop at words) (omega (arith, length-drop at words, reaches)) in
          rw (take-add at size words) (bytes_append (take at words) (take size (drop at words)) ∙ omega arith)

    -- none starts
    module _ (e : starts size valid (drop at words) ≡ false) where
      pub passes : earliest_from size valid at 0 (drop at words) ≡ earliest_from size valid (at + 1) 0 (drop (at + 1) words)
      unfolding earliest_from
      passes =
          let d = drop-cons words at 0 h in
          let k : starts size valid (get_or words at 0 ∷ drop (suc at) words) ≡ false = rw d at e in
          rw (d, k, add-one)

      pub pieces_left : is_byte (get_or words at 0) ≡ true → (n : ℕ) → pieces_from size valid at 0 n (drop at words) ≡ pieces_from size valid (at + 1) 0 (n + 1) (drop (at + 1) words)
      unfolding pieces_from
      pieces_left b n =
          let d = drop-cons words at 0 h in
          let k : starts size valid (get_or words at 0 ∷ drop (suc at) words) ≡ false = rw d at e in
          rw (d, k, b, add-one at, add-one n)

      pub pieces_marked : is_byte (get_or words at 0) ≡ false → (n : ℕ) → pieces_from size valid at 0 n (drop at words) ≡ behind size valid at n ++ pieces_from size valid (at + 1) 0 0 (drop (at + 1) words)
      unfolding pieces_from
      pieces_marked b n =
          let d = drop-cons words at 0 h in
          let k : starts size valid (get_or words at 0 ∷ drop (suc at) words) ≡ false = rw d at e in
          rw (d, k, b, add-one at)

  -- the end
  pub ended : (words : List ℕ) (at : ℕ) → length words ≤ at → earliest_from size valid at 0 (drop at words) ≡ []
  unfolding earliest_from
  ended words at h = rw (drop_of_length-le words h)

  pub pieces_ended : (words : List ℕ) (at n : ℕ) → length words ≤ at → pieces_from size valid at 0 n (drop at words) ≡ behind size valid at n
  unfolding pieces_from
  pieces_ended words at n h = rw (drop_of_length-le words h)
