-- The loop over many bytes: the first byte of what is left.
use Prim.Native.Nat.{ℕ, ◌+◌, ◌-◌, ◌<◌, ◌≤◌}
use mathlib.Core.Path.{◌≡◌, refl, sym, ◌∙◌, ap}
use mathlib.Core.List.{List, [], ◌∷◌, ◌++◌}
use native.Mathlib.Omega.{arith}
use lib.ListN.{length, get_or, take, drop, set, length-drop, take-append-drop}
use lib.Seq.{sets-eq, get_or-drop, drop-drop}
use native.Mathlib.Nat.{add-zero}
use Rattle.std.proofs.Common.{None, Some, append_assoc}
use Rattle.fold.proofs.Parts.{rest_is, back}
use Rattle.fold.specs.Calls.{Stands, Lawful}
use Rattle.fold.proofs.Loops as loops
use Rattle.fold.proofs.Calls.{call_line}
use Rattle.port.specs.Marks.{byte_of}
use Rattle.port.specs.Line.{words_in, hears_bytes, whole, line_of, Begins}
use Rattle.port.specs.declared.Port.{Port}
use Rattle.port.specs.declared.Heard.{Heard}

-- words are counted by their places
pub lawful : Lawful hears_bytes
lawful =
    record {
      plus_none = λ k. omega arith;
      none_plus = λ k. omega arith;
      plus_plus = λ i j k. omega arith;
      none_places = refl;
      plus_places = λ j k. refl;
      each = λ g. refl;
      stays = λ p b e. refl;
    }

module _ {p : Port} (raw : List ℕ) (out : List ℕ) {s : Heard} (some : 0 < length raw) (is : s ≡ byte_of p (get_or raw 0 0)) where
  -- the first byte's word has no room, or it is taken
  pub stopping : length out < length (words_in s.given) → Begins p raw out (record { next = p; taken = 0; written = 0 }) out
  stopping h = loops.stopping hears_bytes lawful p raw out refl some (λ _. rw is at h)

  pub taking : length (words_in s.given) ≤ length out
      → Begins p raw out (record { next = s.next; taken = 1; written = length (words_in s.given) })
      (words_in s.given ++ drop (length (words_in s.given)) out)
  taking h = rw is (loops.taking hears_bytes lawful p raw out refl some refl (rw is at h))

-- where the loop stands
module _ {raw : List ℕ} {before out : List ℕ} {p₀ p : Port} {at used : ℕ} (s : Stands hears_bytes p₀ raw before p at used used out) where
  pub record Far : Type 0 where
    pub within : at ≤ length raw
    pub room : used ≤ length before
    pub long : length out ≡ length before

  pub far : Far
  far = let w = loops.stands_within hears_bytes lawful s in record { within = w.0; room = w.1; long = w.2 }

  -- all bytes are taken
  pub ends_all : length raw ≤ at → whole (record { next = p; taken = at; written = used }) out ≡ line_of p₀ raw before
  ends_all h = loops.ends_all hears_bytes lawful s h ∙ sym (call_line hears_bytes lawful p₀ raw before refl)

  -- the next byte
  module _ {h : Heard} (some : at < length raw) (is : h ≡ byte_of p (get_or raw at 0)) where
    abbrev rest : List ℕ
    rest = take (length raw - at) (drop at raw)

    abbrev room : List ℕ
    room = take (length out - used) (drop used out)

    any : 0 < length rest
    any = rw (rest_is raw at) (simp length-drop (omega arith))

    same : h ≡ byte_of p (get_or rest 0 0)
    same = is ∙ rw (rest_is raw at, get_or-drop at raw 0 0, add-zero)

    -- it gives no word
    pub nothing_more : h.given ≡ None → Stands hears_bytes p₀ raw before h.next (at + 1) used used out
    nothing_more e =
        let turn = loops.more hears_bytes lawful s (taking rest room any same (rw e (omega arith))) in
        rw (e, back out room used, rest_is out used, take-append-drop used out, add-zero used) at turn

    -- its word has a place
    pub word_more : {w : ℕ} → h.given ≡ Some w → used < length out → Stands hears_bytes p₀ raw before h.next (at + 1) (used + 1) (used + 1) (set out used w)
    word_more {w} e f =
        let put : set out used w ≡ take used out ++ (w ∷ []) ++ drop (used + 1) out = sets-eq (w ∷ []) out used (omega arith) in
        let long : 1 ≤ length room = rw (rest_is out used) (simp length-drop (omega arith)) in
        let behind : drop 1 room ≡ drop (used + 1) out = ap (drop 1) (rest_is out used) ∙ drop-drop 1 used out in
        let written : set out used w ≡ take used out ++ (w ∷ drop 1 room) = put ∙ append_assoc (take used out) (w ∷ []) (drop (used + 1) out) ∙ ap (λ (l : List ℕ). take used out ++ (w ∷ l)) (sym behind) in
        let turn = loops.more hears_bytes lawful s (taking rest room any same (rw e long)) in
        rw written (rw (e, back out (w ∷ drop 1 room) used) at turn)

    -- its word has none, and the line ends
    pub no_room : {w : ℕ} → h.given ≡ Some w → length out ≤ used → whole (record { next = p; taken = at; written = used }) out ≡ line_of p₀ raw before
    no_room e f =
        let short : length room < 1 = rw (rest_is out used) (simp length-drop (omega arith)) in
        loops.ends_before hears_bytes lawful s (stopping rest room any same (rw e short)) refl ∙ sym (call_line hears_bytes lawful p₀ raw before refl)
