-- Calls worked out: the paper's example in three pieces, one of them with too few places; an input that ends early; and one as long as any can be.
use Prim.Native.Nat.{ℕ, ◌*◌, ◌≤◌}
use mathlib.Core.Path.{◌≡◌, refl, ◌∙◌, ap}
use mathlib.Core.Bool.{true, false}
use mathlib.Core.List.{List, [], ◌∷◌, ◌++◌, append-nil}
use native.Mathlib.Omega.{arith}
use lib.ListN.{length, take, replicate, length-replicate}
use lib.Seq.{take_all}
use Rattle.fold.specs.Pieces.{Call, after, taken_by, written_by}
use Rattle.wire.specs.Reading.{read_v}
use Rattle.text.specs.Decimals.{digits_of, size_in, places_of, decimal_of, readable, plus_in, number_in}
use Rattle.reader.proofs.Computing as reader
use Rattle.listing.specs.Lines.{mark_in, format_in, said_by}
use Rattle.listing.specs.Scanning.{line_in, taken_of, scanned_byte, closed_of, end_of, most_bytes}
use Rattle.listing.specs.Scanning as scanner
use Rattle.listing.specs.Items.{gave_of}
use Rattle.listing.specs.Printing.{line_of}
use Rattle.listing.specs.Listing.{listing_of}
use Rattle.listing.specs.Feeding.{fresh, front_of, fed_byte, last_of, feed_in, finish_in, good}
use Rattle.listing.specs.Promises.{Listed, enough, feed_of, finish_of}
use Rattle.listing.specs.Calls.{feed_calls}
use Rattle.listing.specs.Examples.{paper}
use Rattle.listing.specs.declared.Lister.{Lister}
use Rattle.listing.proofs.Keeps.{fresh_is_good}
use Rattle.listing.proofs.Calls.{takes_all, in_calls, ended_early, has_ended}

-- what the calls compute with
unfoldable computing : Unit {0}
unfolding reader.computing feed_of finish_of feed_in finish_in last_of fed_byte front_of good scanner.good closed_of end_of scanned_byte taken_of line_in gave_of mark_in format_in said_by line_of digits_of size_in places_of decimal_of readable plus_in number_in read_v
computing = tt

-- a call with so many places, answered by the definition
abbrev call : Lister → List ℕ → ℕ → Call Listed ℕ
call m piece room =
    let w = feed_of m piece (replicate room 0) in
    record { piece = piece; before = replicate room 0; answer = w.listed; after = w.out }

-- F V/B 5, then /B 108/B 5/B 61/Q/ with twelve places, which stops before the newline of line 5, and then what is left
abbrev first : Call Listed ℕ
first = call fresh (70 ∷ 9 ∷ 86 ∷ 10 ∷ 66 ∷ 9 ∷ 53 ∷ []) 40

abbrev second : Call Listed ℕ
second = call first.answer.next (10 ∷ 66 ∷ 9 ∷ 49 ∷ 48 ∷ 56 ∷ 10 ∷ 66 ∷ 9 ∷ 53 ∷ 10 ∷ 66 ∷ 9 ∷ 54 ∷ 49 ∷ 10 ∷ 81 ∷ 10 ∷ []) 12

abbrev third : Call Listed ℕ
third = call second.answer.next (10 ∷ 81 ∷ 10 ∷ []) 40

abbrev three : List (Call Listed ℕ)
three = first ∷ second ∷ third ∷ []

pub stopped_short : second.answer.taken ≡ 15
unfolding computing
stopped_short = refl

-- an end with no room, and then one with forty places
abbrev after_three : Lister
after_three = after feed_calls fresh three

pub no_room : (finish_of after_three []).listed.ended ≡ false
unfolding computing
no_room = refl

pub room : (finish_of after_three (replicate 40 0)).listed.ended ≡ true
unfolding computing
room = refl

all_taken : taken_by feed_calls three ≡ paper.input
unfolding computing
all_taken = refl

-- so that the calls and the end wrote the listing of the example
pub in_three_calls : let end = finish_of after_three (replicate 40 0) in written_by feed_calls three ++ take end.listed.written end.out ≡ listing_of paper.input
in_three_calls =
    let end = finish_of after_three (replicate 40 0) in
    in_calls three (replicate 40 0) end.out end.listed (refl, (refl, (refl, tt))) refl room ∙ ap listing_of all_taken

-- B 5/ as the first line, whatever comes behind it: L 6/E 000001/
pub bad_at_once : (rest : List ℕ) → 76 ∷ 9 ∷ 54 ∷ 10 ∷ 69 ∷ 9 ∷ 48 ∷ 48 ∷ 48 ∷ 48 ∷ 48 ∷ 49 ∷ 10 ∷ [] ≡ listing_of (66 ∷ 9 ∷ 53 ∷ 10 ∷ rest)
unfolding computing
bad_at_once rest = ended_early (call fresh (66 ∷ 9 ∷ 53 ∷ 10 ∷ []) 40 ∷ []) rest (refl, tt) refl

-- n bytes c, where n is six million or more, with room for each
pub long_ended : (n c : ℕ) → most_bytes ≤ n → (call fresh (replicate n c) (enough * n)).answer.next.scanner.ended ≡ true
long_ended n c h =
    let piece : List ℕ = replicate n c in
    let k = call fresh piece (enough * n) in
    let long : length piece ≡ n = length-replicate n c in
    let free : length k.before ≡ enough * n = length-replicate (enough * n) 0 in
    let taken = takes_all fresh piece k.before k.after k.answer fresh_is_good refl (omega (arith, long, free)) in
    has_ended (k ∷ []) (refl, tt) (rw (append-nil (take k.answer.taken piece), taken, take_all (length piece) piece (omega arith)) (omega (arith, long)))
