-- Laws of calls in pieces: what is kept from call to call, what holds over them, what they wrote, and that they come to
-- an end.
use Prim.Native.Nat.{ℕ, ◌+◌, ◌≤◌, ◌<◌}
use mathlib.Core.Path.{◌≡◌, refl, sym, ◌∙◌, ap}
use mathlib.Core.Logic.{◌⊎◌, inl, inr, ⊎_elim}
use mathlib.Core.List.{List, [], ◌∷◌, ◌++◌, append_assoc, append-nil}
use native.Mathlib.Omega.{arith}
use lib.ListN.{length, take, drop, length-append, length-take, take-append-drop}
use Rattle.fold.specs.Pieces.{InPieces, Call, Permitted, after, taken_by, written_by}

-- of every state that is kept, and every answer that the promise permits
abbrev pub EachCall : {S A X : Type 0} (c : InPieces S A X) (Kept : S → Type 0) → (S → List ℕ → List X → A → Type 0) → Type 0
EachCall {S} {A} {X} c Kept P = (s : S) (piece : List ℕ) (before after : List X) (a : A) → Kept s → c.Promise s piece before a after → P s piece after a

module _ {S A X : Type 0} (c : InPieces S A X) (Kept : S → Type 0) (stays : EachCall c Kept (λ s piece after a. Kept (c.next a))) where
  pub after_kept : (ks : List (Call A X)) (s : S) → Kept s → Permitted c s ks → Kept (after c s ks)
  after_kept [] s h p = h
  after_kept (k ∷ ks) s h p = after_kept ks (c.next k.answer) (stays s k.piece k.before k.after k.answer h p.0) p.1

  -- what holds of a state and its input, of what is written, and of a later state and the input that is left to it
  module _ (P : S → List ℕ → List X → S → List ℕ → Type 0)
      (same : (s : S) (q : List ℕ) → P s q [] s q)
      (both : (s : S) (p : List ℕ) (w : List X) (t : S) (q : List ℕ) (v : List X) (u : S) (r : List ℕ) → P s p w t q → P t q v u r → P s p (w ++ v) u r)
      (call : EachCall c Kept (λ s piece after a. (q : List ℕ) → P s (take (c.taken a) piece ++ q) (take (c.written a) after) (c.next a) q)) where
    pub over_calls : (ks : List (Call A X)) (q : List ℕ) (s : S) → Kept s → Permitted c s ks → P s (taken_by c ks ++ q) (written_by c ks) (after c s ks) q
    over_calls [] q s h p = same s q
    over_calls (k ∷ ks) q s h p =
        let next = c.next k.answer in
        let front = take (c.taken k.answer) k.piece in
        let rest = taken_by c ks ++ q in
        rw (append_assoc front (taken_by c ks) q)
        (both s (front ++ rest) (take (c.written k.answer) k.after) next rest (written_by c ks) (after c next ks) q
        (call s k.piece k.before k.after k.answer h p.0 rest) (over_calls ks q next (stays s k.piece k.before k.after k.answer h p.0) p.1))

  -- what is written of an input from a state on: each call writes the front of it
  module _ (all : S → List ℕ → List X) (goes : EachCall c Kept (λ s piece after a. (q : List ℕ) → all s (take (c.taken a) piece ++ q) ≡ take (c.written a) after ++ all (c.next a) q)) where
    -- A PIECE AND MORE: what the call wrote, and then what is written of what it left and more
    pub piece_and_more : EachCall c Kept (λ s piece after a. (q : List ℕ) → all s (piece ++ q) ≡ take (c.written a) after ++ all (c.next a) (drop (c.taken a) piece ++ q))
    piece_and_more s piece before after a h p q =
        let front = take (c.taken a) piece in
        let rest = drop (c.taken a) piece in
        ap (λ (l : List ℕ). all s (l ++ q)) (sym (take-append-drop (c.taken a) piece)) ∙ ap (all s) (append_assoc front rest q) ∙ goes s piece before after a h p (rest ++ q)

    -- CALLS ONE AFTER THE OTHER: so do all of them
    pub calls_write : (ks : List (Call A X)) (q : List ℕ) (s : S) → Kept s → Permitted c s ks → all s (taken_by c ks ++ q) ≡ written_by c ks ++ all (after c s ks) q
    calls_write =
        over_calls (λ s p w t q. all s p ≡ w ++ all t q) (λ s q. refl) (λ s p w t q v u r e f. e ∙ ap (λ (l : List X). w ++ l) f ∙ sym (append_assoc w v (all u r))) goes

    -- where nothing more is written, whatever follows, they wrote all of it
    pub calls_wrote : (ks : List (Call A X)) (q : List ℕ) (s : S) → Kept s → Permitted c s ks → all (after c s ks) q ≡ [] → written_by c ks ≡ all s (taken_by c ks ++ q)
    calls_wrote ks q s h p e = sym (calls_write ks q s h p ∙ ap (λ (l : List X). written_by c ks ++ l) e ∙ append-nil (written_by c ks))

  -- each call ends it for good, or brings it as far as it took bytes
  module _ (Ended : S → Type 0) (passed : S → ℕ) (stays_ended : EachCall c Kept (λ s piece after a. Ended s → Ended (c.next a)))
      (goes_on : EachCall c Kept (λ s piece after a. Ended (c.next a) ⊎ (passed s + c.taken a ≤ passed (c.next a)))) where
    nearer : (ks : List (Call A X)) (s : S) → Kept s → Permitted c s ks → (Ended s → Ended (after c s ks)) × (Ended (after c s ks) ⊎ (passed s + length (taken_by c ks) ≤ passed (after c s ks)))
    nearer [] s h p = (λ e. e, inr (omega arith))
    nearer (k ∷ ks) s h p =
        let later = nearer ks (c.next k.answer) (stays s k.piece k.before k.after k.answer h p.0) p.1 in
        let front = take (c.taken k.answer) k.piece in (
          λ e. later.0 (stays_ended s k.piece k.before k.after k.answer h p.0 e),
          ⊎_elim (λ e. inl (later.0 e))
              (λ n. ⊎_elim inl (λ l. inr (omega (arith, n, l, length-append front (taken_by c ks), length-take (c.taken k.answer) k.piece))) later.1)
              (goes_on s k.piece k.before k.after k.answer h p.0),
        )

    -- HAS ENDED: after more bytes than it can have come, it has ended
    pub has_ended : (most : ℕ) → ((s : S) → Kept s → passed s < most) → (ks : List (Call A X)) (s : S) → Kept s → Permitted c s ks → most ≤ length (taken_by c ks) → Ended (after c s ks)
    has_ended most never ks s h p long =
        ⊎_elim (λ e. e) (λ n. absurd (omega (arith, n, never (after c s ks) (after_kept ks s h p)))) (nearer ks s h p).1
