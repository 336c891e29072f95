-- An abstract sender: whatever sends what is under way word by word, breaks it off, or is silent, puts the words of its passages on the line.
use Prim.Native.Nat.{ℕ, ◌+◌, ◌<◌}
use mathlib.Core.Path.{◌≡◌, refl, sym, ◌∙◌, ap}
use mathlib.Core.Bool.{Bool, true, false}
use mathlib.Core.List.{List, [], ◌∷◌, ◌++◌, append_assoc, append-nil}
use native.Mathlib.Numerals.{add-one}
use lib.ListN.{length, get_or, take}
use lib.Seq.{take-suc, take-length}
use lib.Dec.{eqb}
use borrow.Author.Tests.{eqb-true}
use Rattle.frames.specs.Words.{break, silence}
use Rattle.frames.specs.Passages.{UnderWay, nothing, first, passage_words, part_words}
use Rattle.frames.specs.Sender.{Told, sent_one, broken_off, passages_over, going_over}
use Rattle.frames.proofs.Passages.{passages_append}

-- over a list of events, where next is the sender's step: the words that they give
unfoldable pub given_over : {B E : Type 0} → (B → E → B) → (B → E → List ℕ) → B → List E → List ℕ
given_over next given b [] = []
given_over next given b (e ∷ events) = given b e ++ given_over next given (next b e) events

-- one byte more of some bytes
one_more_lem : (bytes : List ℕ) (n : ℕ) → n < length bytes → take n bytes ++ (get_or bytes n 0 ∷ []) ≡ take (n + 1) bytes
one_more_lem bytes n h = rw (add-one, take-suc bytes n 0)

all_gone : (bytes : List ℕ) (n : ℕ) → n + 1 ≡ length bytes → n < length bytes → take n bytes ++ (get_or bytes n 0 ∷ []) ≡ bytes
all_gone bytes n e h = one_more_lem bytes n h ∙ rw (e, take-length)

module _ {K : Type 0} (bytes : K → List ℕ) where
  -- the word that is sent next: a byte of what is under way, or a silence
  abbrev pub next_word : UnderWay K → ℕ
  next_word nothing = silence
  next_word (first n k) = get_or (bytes k) n 0

  -- a byte is left
  abbrev pub Left : UnderWay K → Type 0
  Left nothing = Unit {0}
  Left (first n k) = n < length (bytes k)

  pub sends : (g : UnderWay K) → Left g
      → part_words bytes g ++ (next_word g ∷ []) ≡ passage_words bytes (sent_one bytes g).passages ++ part_words bytes (sent_one bytes g).going
  sends nothing l = refl
  sends (first n k) l = go (eqb (n + 1) (length (bytes k))) refl
    where
      go : (t : Bool) → eqb (n + 1) (length (bytes k)) ≡ t
          → take n (bytes k) ++ (get_or (bytes k) n 0 ∷ []) ≡ passage_words bytes (sent_one bytes (first n k)).passages ++ part_words bytes (sent_one bytes (first n k)).going
      go true e = rw (e, append-nil, append-nil) (all_gone (bytes k) n (eqb-true (n + 1) (length (bytes k)) e) l)
      go false e = rw e (one_more_lem (bytes k) n l)

  -- what is under way is broken off, if anything is
  pub breaks : (n : ℕ) (k : K) → part_words bytes (first n k) ++ (break ∷ []) ≡ passage_words bytes (broken_off (first n k))
  breaks n k = sym (append-nil _)

  -- a sender: its steps, the words that they give, and what they do to the line, where Holds says that this is under way
  module _ {B E : Type 0} (next : B → E → B) (given : B → E → List ℕ) (tells : B → E → UnderWay K → Told K) (Holds : B → UnderWay K → Type 0)
      (step : (b : B) (e : E) (g : UnderWay K) → Holds b g
      → (part_words bytes g ++ given b e ≡ passage_words bytes (tells b e g).passages ++ part_words bytes (tells b e g).going) × Holds (next b e) (tells b e g).going) where
    -- the words of a run are the words of its passages, and of what is under way after them
    pub bridge : (b : B) (g : UnderWay K) (events : List E) → Holds b g
        → part_words bytes g ++ given_over next given b events ≡ passage_words bytes (passages_over next tells b g events) ++ part_words bytes (going_over next tells b g events)
    unfolding given_over passages_over going_over
    bridge b g [] h = append-nil (part_words bytes g)
    bridge b g (e ∷ events) h =
        let s = step b e g h in
        let t = tells b e g in
        let words = given_over next given (next b e) events in
        let rest = passages_over next tells (next b e) t.going events in
        let last = part_words bytes (going_over next tells (next b e) t.going events) in
        sym (append_assoc (part_words bytes g) (given b e) words)
        ∙ ap (λ (ws : List ℕ). ws ++ words) s.0
        ∙ append_assoc (passage_words bytes t.passages) (part_words bytes t.going) words
        ∙ ap (λ (ws : List ℕ). passage_words bytes t.passages ++ ws) (bridge (next b e) t.going events s.1)
        ∙ sym (append_assoc (passage_words bytes t.passages) (passage_words bytes rest) last)
        ∙ ap (λ (ws : List ℕ). ws ++ last) (sym (passages_append bytes t.passages rest))
