-- A box to try, worked out: small inputs, with the recording and the listing computed, beside the theorem. In the
-- comments a blank stands for a tab and / for a newline.
use Rattle.std.specs.Prelude.{ℕ, ◌≡◌, refl, List, [], ◌∷◌, pos}
use Rattle.std.proofs.Common.{arith}
use Rattle.numbers.specs.Signed.{minus}
use Rattle.frames.specs.Passages.{finished}
use Rattle.wire.specs.Line.{letter_of}
use Rattle.wire.specs.Reading.{report}
use Rattle.wire.specs.Messages.{latched_in}
use Rattle.wire.specs.declared.Report.{Report}
use Rattle.wire.specs.declared.Format.{Format}
use Rattle.wire.specs.declared.Format.TheVariants.{Mm, FiveByte}
use Rattle.text.specs.Decimals.{digits_of, size_in, places_of, decimal_of, readable, plus_in, number_in}
use Rattle.reader.specs.Promises.{fresh_of}
use Rattle.listing.specs.Lines.{lines_in, mark_in, format_in, said_by}
use Rattle.listing.specs.Scanning.{width, line_in, found_in}
use Rattle.listing.specs.Items.{gave_of, items_from}
use Rattle.listing.specs.Printing.{line_of}
use Rattle.listing.specs.Listing.{items_at, listing_of}
use Rattle.listing.specs.declared.Item.TheVariants as item
use Rattle.ballbox.specs.Box.{fresh_box}
use Rattle.ballbox.specs.declared.Stepped.{Stepped}
use Rattle.ballbox.specs.declared.Event.TheVariants.{Host}
use Rattle.history.specs.Runs.{answers_to}
use Rattle.history.proofs.Permitted.{answer_permitted, answers_permitted}
use Rattle.driver.specs.Lines as lines
use Rattle.driver.specs.Recorded.{word_bytes, record_line}
use Rattle.driver.specs.Driving.{slots, line_done, records_from, recording_of}
use Rattle.driver.specs.Events.{events_of}
use Rattle.driver.specs.Listed.{reports_in}
use Rattle.demands.specs.Computing as rules
use Rattle.demands.specs.Demand3.{sent}
use Rattle.demands.specs.Worked.{set_to, slow_move, press}
use Rattle.demands.specs.TriedBox.{Tried, marked, from_silence, Lists, listed_whole, listed_bad}

-- what they compute with: the rules of the box and of the reader, and those of lines of events, of recordings and of listings
unfoldable computing : Unit {0}
unfolding rules.computing lines_in mark_in format_in said_by line_in found_in gave_of items_from line_of listing_of digits_of
    size_in places_of decimal_of readable plus_in number_in fresh_of lines.said_by lines.with_fields lines.motion_in
    lines.format_in lines.alone_in word_bytes record_line slots line_done records_from recording_of
computing = tt

-- S: a movement, a character's time with nothing to send, and a press: F S/M 5 -3/S 4/N 4/S 3/
abbrev input_s : List ℕ
input_s = 70 ∷ 9 ∷ 83 ∷ 10 ∷ 77 ∷ 9 ∷ 53 ∷ 9 ∷ 45 ∷ 51 ∷ 10 ∷ 83 ∷ 9 ∷ 52 ∷ 10 ∷ 78 ∷ 9 ∷ 52 ∷ 10 ∷ 83 ∷ 9 ∷ 51 ∷ 10 ∷ []

abbrev lines_s : List (List ℕ)
lines_s = (77 ∷ 9 ∷ 53 ∷ 9 ∷ 45 ∷ 51 ∷ []) ∷ (83 ∷ 9 ∷ 52 ∷ []) ∷ (78 ∷ 9 ∷ 52 ∷ []) ∷ (83 ∷ 9 ∷ 51 ∷ []) ∷ []

-- the answers of the rules to the events of lines
abbrev answers_by : Format → List (List ℕ) → List Stepped
answers_by f ls = answers_to (set_to f).next (events_of ls)

tried_s : Tried Mm input_s lines_s [] (set_to Mm) (answers_by Mm lines_s)
unfolding computing
tried_s =
    record {
      tries = record { first = 70 ∷ 9 ∷ 83 ∷ []; is = refl; says = refl; pass = refl; few = omega arith };
      set = answer_permitted fresh_box (Host (letter_of Mm));
      asked = refl;
      permitted = answers_permitted (set_to Mm).next (events_of lines_s);
    }

-- both reports are listed
pub listed_s : Lists Mm (recording_of input_s) (slow_move ∷ press ∷ []) (item.H 0)
unfolding computing
listed_s = listed_whole tried_s (marked refl) (omega arith)

-- F S/B 144/B 5/B 3/Q/B 156/B 0/B 0/, and L 6/R 000004 --- 5 -3/R 000008 L-- 0 0/H 0/
pub computed_s : (recording_of input_s ≡ 70 ∷ 9 ∷ 83 ∷ 10 ∷ 66 ∷ 9 ∷ 49 ∷ 52 ∷ 52 ∷ 10 ∷ 66 ∷ 9 ∷ 53 ∷ 10 ∷ 66 ∷ 9 ∷ 51 ∷ 10 ∷ 81 ∷ 10 ∷ 66 ∷ 9 ∷ 49 ∷
    53 ∷ 54 ∷ 10 ∷ 66 ∷ 9 ∷ 48 ∷ 10 ∷ 66 ∷ 9 ∷ 48 ∷ 10 ∷ [])
    × (listing_of (recording_of input_s)
    ≡ 76 ∷ 9 ∷ 54 ∷ 10 ∷ 82 ∷ 9 ∷ 48 ∷ 48 ∷ 48 ∷ 48 ∷ 48 ∷ 52 ∷ 9 ∷ 45 ∷ 45 ∷ 45 ∷ 9 ∷ 53 ∷ 9 ∷ 45 ∷ 51 ∷ 10
    ∷ 82 ∷ 9 ∷ 48 ∷ 48 ∷ 48 ∷ 48 ∷ 48 ∷ 56 ∷ 9 ∷ 76 ∷ 45 ∷ 45 ∷ 9 ∷ 48 ∷ 9 ∷ 48 ∷ 10 ∷ 72 ∷ 9 ∷ 48 ∷ 10 ∷ [])
unfolding computing
computed_s = (refl, refl)

-- U: a character's time with nothing to send, and then a movement: F U/S/M -123 0/S 5/
abbrev input_u : List ℕ
input_u = 70 ∷ 9 ∷ 85 ∷ 10 ∷ 83 ∷ 10 ∷ 77 ∷ 9 ∷ 45 ∷ 49 ∷ 50 ∷ 51 ∷ 9 ∷ 48 ∷ 10 ∷ 83 ∷ 9 ∷ 53 ∷ 10 ∷ []

abbrev lines_u : List (List ℕ)
lines_u = (83 ∷ []) ∷ (77 ∷ 9 ∷ 45 ∷ 49 ∷ 50 ∷ 51 ∷ 9 ∷ 48 ∷ []) ∷ (83 ∷ 9 ∷ 53 ∷ []) ∷ []

abbrev left : Report
left = report 0 (minus 123) (pos 0)

tried_u : Tried FiveByte input_u lines_u [] (set_to FiveByte) (answers_by FiveByte lines_u)
unfolding computing
tried_u =
    record {
      tries = record { first = 70 ∷ 9 ∷ 85 ∷ []; is = refl; says = refl; pass = refl; few = omega arith };
      set = answer_permitted fresh_box (Host (letter_of FiveByte));
      asked = refl;
      permitted = answers_permitted (set_to FiveByte).next (events_of lines_u);
    }

-- the report behind the silence is listed
pub listed_u : Lists FiveByte (recording_of input_u) (left ∷ []) (item.H 0)
unfolding computing
listed_u = listed_whole tried_u (from_silence [] (finished (latched_in FiveByte left) ∷ []) refl refl tt tt) (omega arith)

-- F U/Q/B 135/B 133/B 0/B 0/B 0/, and L 6/R 000007 --- -123 0/H 0/
pub computed_u : (recording_of input_u ≡ 70 ∷ 9 ∷ 85 ∷ 10 ∷ 81 ∷ 10 ∷ 66 ∷ 9 ∷ 49 ∷ 51 ∷ 53 ∷ 10 ∷ 66 ∷ 9 ∷ 49 ∷ 51 ∷ 51 ∷ 10 ∷ 66 ∷ 9 ∷ 48 ∷ 10 ∷ 66 ∷
    9 ∷ 48 ∷ 10 ∷ 66 ∷ 9 ∷ 48 ∷ 10 ∷ [])
    × (listing_of (recording_of input_u)
    ≡ 76 ∷ 9 ∷ 54 ∷ 10 ∷ 82 ∷ 9 ∷ 48 ∷ 48 ∷ 48 ∷ 48 ∷ 48 ∷ 55 ∷ 9 ∷ 45 ∷ 45 ∷ 45 ∷ 9 ∷ 45 ∷ 49 ∷ 50 ∷ 51 ∷ 9 ∷ 48 ∷ 10 ∷ 72 ∷ 9 ∷ 48 ∷ 10 ∷ [])
unfolding computing
computed_u = (refl, refl)

-- That it comes behind a silence is needed: of F U/M -123 0/S 5/, which sends the same report, the listing has no `R` line
abbrev lines_n : List (List ℕ)
lines_n = (77 ∷ 9 ∷ 45 ∷ 49 ∷ 50 ∷ 51 ∷ 9 ∷ 48 ∷ []) ∷ (83 ∷ 9 ∷ 53 ∷ []) ∷ []

abbrev input_n : List ℕ
input_n = 70 ∷ 9 ∷ 85 ∷ 10 ∷ 77 ∷ 9 ∷ 45 ∷ 49 ∷ 50 ∷ 51 ∷ 9 ∷ 48 ∷ 10 ∷ 83 ∷ 9 ∷ 53 ∷ 10 ∷ []

pub silence_needed : (sent (set_to FiveByte) (events_of lines_n) ≡ finished (latched_in FiveByte left) ∷ []) × (reports_in (items_at width (recording_of input_n)) ≡ [])
unfolding computing
silence_needed = (refl, refl)

-- An event that the box refuses: F U/S/N 8/S/, of which F U/Q/E 3/ is recorded, and the listing of that is L 6/E 000003/
abbrev input_e : List ℕ
input_e = 70 ∷ 9 ∷ 85 ∷ 10 ∷ 83 ∷ 10 ∷ 78 ∷ 9 ∷ 56 ∷ 10 ∷ 83 ∷ 10 ∷ []

tried_e : Tried FiveByte input_e ((83 ∷ []) ∷ []) ((78 ∷ 9 ∷ 56 ∷ []) ∷ (83 ∷ []) ∷ []) (set_to FiveByte) (answers_by FiveByte ((83 ∷ []) ∷ []))
unfolding computing
tried_e =
    record {
      tries = record { first = 70 ∷ 9 ∷ 85 ∷ []; is = refl; says = refl; pass = refl; few = omega arith };
      set = answer_permitted fresh_box (Host (letter_of FiveByte));
      asked = refl;
      permitted = answers_permitted (set_to FiveByte).next (events_of ((83 ∷ []) ∷ []));
    }

pub listed_e : Lists FiveByte (recording_of input_e) [] (item.E 3)
unfolding computing
listed_e = listed_bad tried_e (from_silence [] [] refl refl tt tt) (omega arith) refl (omega arith)

pub computed_e : (recording_of input_e ≡ 70 ∷ 9 ∷ 85 ∷ 10 ∷ 81 ∷ 10 ∷ 69 ∷ 9 ∷ 51 ∷ 10 ∷ [])
    × (listing_of (recording_of input_e) ≡ 76 ∷ 9 ∷ 54 ∷ 10 ∷ 69 ∷ 9 ∷ 48 ∷ 48 ∷ 48 ∷ 48 ∷ 48 ∷ 51 ∷ 10 ∷ [])
unfolding computing
computed_e = (refl, refl)
