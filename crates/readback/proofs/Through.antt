-- THROUGH BOTH: whatever the lister writes of an input, in whatever calls, comes back as it was through whatever calls of the reader.
use Prim.Native.Nat.{ℕ}
use mathlib.Core.Path.{◌≡◌, refl, ◌∙◌, ap}
use mathlib.Core.Bool.{Bool, true, false}
use mathlib.Core.List.{List, [], ◌++◌, append-nil}
use mathlib.Core.Logic.{⊎_elim}
use lib.IntN.{ℤ}
use lib.ListN.{take}
use Rattle.fold.specs.Pieces.{Call, Permitted, after, taken_by, written_by}
use Rattle.wire.specs.Numbers.{success}
use Rattle.listing.specs.Scanning.{width}
use Rattle.listing.specs.Listing.{items_at}
use Rattle.listing.specs.Feeding as lister
use Rattle.listing.specs.Promises.{Listed, FinishPromise as EndPromise}
use Rattle.listing.specs.Calls.{feed_calls}
use Rattle.listing.specs.declared.Item.{Item}
use Rattle.listing.proofs.Calls as listing
use Rattle.readback.specs.Items.{all_numbers}
use Rattle.readback.specs.Steps.{fresh, of_salvage}
use Rattle.readback.specs.Promises.{ReadPromise, FinishPromise}
use Rattle.readback.specs.Calls.{read_calls}
use Rattle.readback.specs.Whole.{Reading, reading, reading_of}
use Rattle.readback.specs.declared.Back.{Back}
use Rattle.readback.proofs.AsItWas.{as_it_was}
use Rattle.readback.proofs.Calls.{in_calls, no_fault, after_good}
use Rattle.readback.proofs.Goodness.{fresh_is_good}
use Rattle.readback.proofs.Refusals.{good_read}

-- bytes that say items without a fault
module _ (bytes : List ℕ) (salvage : Bool) (items : List Item) (says : reading_of bytes ≡ reading salvage items 0) where
  -- where the reader's calls took all of them, they wrote the numbers of the items, its end tells no fault, and it says which listing it read
  pub all_back : (ks : List (Call Back ℤ)) (a : Back) → Permitted read_calls fresh ks → taken_by read_calls ks ≡ bytes → FinishPromise (after read_calls fresh ks) 0 a
      → (written_by read_calls ks ≡ all_numbers items) × (a.line ≡ 0) × (of_salvage (after read_calls fresh ks) ≡ salvage)
  all_back ks a h all f =
      let said = ap reading_of (append-nil (taken_by read_calls ks) ∙ all) ∙ says in
      let c = in_calls ks [] a h refl f in
      (c.0 ∙ ap (λ (k : Reading). all_numbers k.items) said, c.1 ∙ ap (λ (k : Reading). k.fault) said, c.2 ∙ ap (λ (k : Reading). k.salvage) said)

  -- and on the way no call is refused
  pub all_taken : (ks : List (Call Back ℤ)) (piece rest : List ℕ) (out left : List ℤ) (a : Back) → Permitted read_calls fresh ks → ReadPromise (after read_calls fresh ks) piece out a left
      → taken_by read_calls ks ++ (piece ++ rest) ≡ bytes → a.refusal ≡ success
  all_taken ks piece rest out left a h r all =
      ⊎_elim (λ z. z) (λ seven. absurd (no_fault ks piece rest out left a h r (ap (λ (l : List ℕ). (reading_of l).fault) all ∙ ap (λ (k : Reading). k.fault) says) seven))
      (good_read (after read_calls fresh ks) piece out left a (after_good ks fresh fresh_is_good h) r)

-- the lister's calls, with its end
module _ (ls : List (Call Listed ℕ)) (before last : List ℕ) (e : Listed) (p : Permitted feed_calls lister.fresh ls)
    (end : EndPromise (after feed_calls lister.fresh ls) before e last) (ended : e.ended ≡ true) where
  abbrev listing_bytes : List ℕ
  listing_bytes = written_by feed_calls ls ++ take e.written last

  abbrev input : List ℕ
  input = taken_by feed_calls ls

  says : reading_of listing_bytes ≡ reading false (items_at width input) 0
  says = ap reading_of (listing.in_calls ls before last e p end ended) ∙ as_it_was input

  -- all of what was written comes back, and no call is refused
  pub comes_back : (ks : List (Call Back ℤ)) (a : Back) → Permitted read_calls fresh ks → taken_by read_calls ks ≡ listing_bytes → FinishPromise (after read_calls fresh ks) 0 a
      → (written_by read_calls ks ≡ all_numbers (items_at width input)) × (a.line ≡ 0) × (of_salvage (after read_calls fresh ks) ≡ false)
  comes_back = all_back listing_bytes false (items_at width input) says

  pub none_refused : (ks : List (Call Back ℤ)) (piece rest : List ℕ) (out left : List ℤ) (a : Back) → Permitted read_calls fresh ks → ReadPromise (after read_calls fresh ks) piece out a left
      → taken_by read_calls ks ++ (piece ++ rest) ≡ listing_bytes → a.refusal ≡ success
  none_refused = all_taken listing_bytes false (items_at width input) says
