-- The lines of a piece, rewritten: the text of a line, its number, and what the first line of a piece does.
use Rattle.listing.specs.declared.Item.{Item}
use Rattle.std.proofs.Common.{Option, None, Some}
use Prim.Native.Nat.{ℕ, ◌+◌, ◌*◌, ◌<◌, ◌≤◌, ◌^◌}
use mathlib.Core.Path.{◌≡◌, refl, sym, ◌∙◌, ap, subst}
use mathlib.Core.Bool.{Bool, true, false, cond, ◌&&◌, true≢false}
use mathlib.Core.Logic.{⊎_elim}
use mathlib.Core.List.{List, [], ◌∷◌, ◌++◌}
use native.Mathlib.Omega.{arith}
use native.Mathlib.Nat.{zero-add}
use lib.Dec.{eqb, ltb}
use lib.IntN.{ℤ, pos, negsuc, nat_abs}
use lib.ListN.{length, take, drop, length-append}
use lib.Signed.{lt_z}
use borrow.Author.Tests.{ltb-false}
use Rattle.numbers.proofs.Choices.{cases, neither}
use Rattle.fold.specs.Fold.{ran, written, places, run}
use Rattle.fold.proofs.Laws.{written_append}
use Rattle.wire.specs.Numbers.{success}
use Rattle.text.specs.Growth.{text_of, fits_at, put_of}
use Rattle.text.specs.Decimals.{plain}
use Rattle.text.specs.declared.Text.{Text}
use Rattle.text.proofs.Laws.{put_none}
use Rattle.text.proofs.Digits.{decimal_few}
use Rattle.text.specs.Lengths.{length_to}
use Rattle.listing.specs.Lines.{newline}
use Rattle.listing.specs.Scanning.{width, most_lines}
use Rattle.listing.specs.Printing.{field_of, fields_of, Form, form_of, opening_of, head_of, line_of, line_at}
use Rattle.listing.specs.declared.Field.{Field}
use Rattle.listing.specs.declared.Field.TheVariants as field
use Rattle.listing.specs.declared.Item.TheVariants as item
use Rattle.listing.proofs.Feeds.{size, put_room, put_wrote, put_short}
use Rattle.readback.specs.Fields.{low, high}
use Rattle.readback.specs.Items.{Sixteen}
use Rattle.readback.specs.Steps.{old_width, width_known, step_of, good, of_salvage, Step}
use Rattle.readback.specs.Pieces.{is_whole, body_of, faulty_line, reads, lines_of, fault_at, pieces_of}
use Rattle.readback.specs.Other.{TooWide}
use Rattle.readback.specs.Rewriting.{other_width, too_wide, given_fits, width_behind, rewrites, rewrite_lines, rewriting, rewritten}
use Rattle.readback.specs.Parts.{Stands, Begin, Rewrites}
use Rattle.readback.specs.declared.Readback.{Readback}
use Rattle.readback.specs.declared.Rewritten.{Rewritten}
use Rattle.readback.proofs.Values.{SmallGiven}
use Rattle.readback.proofs.OverLines.{Lawful}
use Rattle.readback.proofs.Goodness.{known_is, known_few, step_leaves}
use Rattle.readback.proofs.Loop.{first_line, step_is, refusal_is, Follows, ends_all, ends_before, refused_stop, room_stop, line_taken}

-- a width that is known and not six is four; and the other width is known
pub known_other : (w : ℕ) → width_known w ≡ true → (w ≡ width → ⊥) → w ≡ old_width
known_other w k n = ⊎_elim (λ e. e) (λ e. absurd (n e)) (known_is w k)

pub other_known : (w : ℕ) → width_known (other_width w) ≡ true
other_known w = cases (λ (v : ℕ). width_known v ≡ true) (eqb w width) (λ _. refl) (λ _. refl)

-- a line is short
pub sixteen_few : (x : ℤ) → Sixteen x → nat_abs x < 10 ^ 5
sixteen_few (pos n) h = omega (arith, ltb-false high n (neither (lt_z (pos n) low) (ltb high n) h).1)
sixteen_few (negsuc n) h = omega (arith, ltb-false high n (neither (ltb high n) (lt_z (pos high) (negsuc n)) h).0)

abbrev Short : List Field → Type 0
Short [] = Unit {0}
Short (field.Line n ∷ fs) = (n ≤ most_lines) × Short fs
Short (field.Number x ∷ fs) = (nat_abs x < 10 ^ 5) × Short fs
Short (field.Pressed b ∷ fs) = Short fs
Short (field.Over ∷ fs) = Short fs

few_fields : (w : ℕ) → w ≤ width → (fs : List Field) → Short fs → length (fields_of w fs) ≤ 8 * length fs
few_fields w h [] s = omega arith
few_fields w h (field.Line n ∷ fs) s = omega (arith, decimal_few w 5 (pos n) h (omega (arith, s.0)), few_fields w h fs s.1, length-append (field_of w (field.Line n)) (fields_of w fs))
few_fields w h (field.Number x ∷ fs) s = omega (arith, decimal_few plain 4 x (omega arith) s.0, few_fields w h fs s.1, length-append (field_of w (field.Number x)) (fields_of w fs))
few_fields w h (field.Pressed b ∷ fs) s = omega (arith, few_fields w h fs s)
few_fields w h (field.Over ∷ fs) s = omega (arith, few_fields w h fs s)

few_form : (w : ℕ) → w ≤ width → (f : Form) → Short f.fields → length f.fields ≤ 4 → length (line_of w f) ≤ 40
unfolding line_of
few_form w h f s n = omega (arith, few_fields w h f.fields s, length-append (head_of w f) (newline ∷ []))

pub few_line : (t : Bool) (w : ℕ) → w ≤ width → (g : Option Item) → SmallGiven g → length (line_at t w g) ≤ 40
few_line t w h None s = few_form w h (opening_of t w) (omega (arith, h), tt) (omega arith)
few_line t w h (Some (item.R n b x y)) s = few_form w h (form_of (item.R n b x y)) (s.0, (sixteen_few x s.1, (sixteen_few y s.2, tt))) (omega arith)
few_line t w h (Some (item.D n k)) s = few_form w h (form_of (item.D n k)) (s.0, (omega (arith, s.1), tt)) (omega arith)
few_line t w h (Some (item.H k)) s = few_form w h (form_of (item.H k)) (omega (arith, s), tt) (omega arith)
few_line t w h (Some (item.E n)) s = few_form w h (form_of (item.E n)) (s, tt) (omega arith)
few_line t w h (Some item.Over) s = few_form w h (form_of item.Over) tt (omega arith)

pub rewriting_follows : Follows rewrites
rewriting_follows = record { next_is = λ r l. refl; faulty_is = λ r l e. rw e }

-- the number of a line, by what is read of it and whether that fits
module _ (r : Readback) (l : List ℕ) where
  by_reading : (P : ℕ → ℕ → Bool → Type 0) → P success success true → P success too_wide false → ((u : Bool) → P faulty_line faulty_line u)
      → P (reads.refusal r l) (rewrites.refusal r l) (given_fits (width_behind r l) (reads.answer r l))
  by_reading P fits wide faulty = go (is_whole l && (step_of r (body_of l)).good) (given_fits (width_behind r l) (reads.answer r l))
    where
      go : (t u : Bool) → P (cond t success faulty_line) (cond (eqb (cond t success faulty_line) success) (cond u success too_wide) faulty_line) u
      go true true = fits
      go true false = wide
      go false u = faulty u

  pub taken_read : rewrites.refusal r l ≡ 0 → reads.refusal r l ≡ 0
  taken_read = by_reading (λ n k u. k ≡ 0 → n ≡ 0) (λ _. refl) (λ _. refl) (λ u e. absurd (omega (arith, e)))

  pub faulty_read : rewrites.refusal r l ≡ faulty_line → reads.refusal r l ≡ faulty_line
  faulty_read = by_reading (λ n k u. k ≡ faulty_line → n ≡ faulty_line) (λ e. absurd (omega (arith, e))) (λ e. absurd (omega (arith, e))) (λ u _. refl)

  pub wide_is : rewrites.refusal r l ≡ too_wide → TooWide r l
  wide_is = by_reading (λ n k u. k ≡ too_wide → (n ≡ success) × (u ≡ false)) (λ e. absurd (omega (arith, e))) (λ _. (refl, refl)) (λ u e. absurd (omega (arith, e)))

  pub is_wide : TooWide r l → rewrites.refusal r l ≡ too_wide
  is_wide w =
      by_reading (λ n k u. n ≡ success → u ≡ false → k ≡ too_wide) (λ _ e. absurd (true≢false e)) (λ _ _. refl) (λ u e. absurd (omega (arith, e))) w.0 w.1

  pub few_places : good r ≡ true → places rewrites r l ≤ 40
  few_places g =
      few_line (of_salvage (reads.next r l)) (width_behind r l) (known_few (width_behind r l) (other_known (reads.next r l).width)) (reads.answer r l) (step_leaves r (body_of l) g).1

-- rewriting, as a call over lines
pub rewrites_lawful : Lawful rewrite_lines
rewrites_lawful =
    record {
      follows = rewriting_follows;
      reading = taken_read;
      plus = λ l k. ap length (written_append rewrites l k) ∙ length-append (written rewrites l) (written rewrites k);
      filled = λ l. refl;
    }

-- the first line of a piece, whose step is known
module _ (r : Readback) (piece out : List ℕ) (g : good r ≡ true) (s : Step) (there : length_to newline piece < length piece) (is : s ≡ step_of r (take (length_to newline piece) piece)) (e : s.good ≡ true) where
  abbrev to : ℕ
  to = other_width s.next.width

  abbrev text : List ℕ
  text = line_at (of_salvage s.next) to s.given

  read_accepted : reads.refusal r (first_line piece) ≡ 0
  read_accepted = refusal_is r piece s there is ∙ rw e

  refused_by : rewrites.refusal r (first_line piece) ≡ cond (given_fits to s.given) 0 too_wide
  refused_by =
      let R : ℕ → Step → ℕ = λ n q. cond (eqb n 0) (cond (given_fits (other_width q.next.width) q.given) 0 too_wide) faulty_line in
      ap (λ (n : ℕ). R n (step_of r (body_of (first_line piece)))) read_accepted ∙ ap (R 0) (step_is r piece s there is)

  answer_is : rewrites.answer r (first_line piece) ≡ text
  answer_is = ap (λ (q : Step). line_at (of_salvage q.next) (other_width q.next.width) q.given) (step_is r piece s there is)

  pub wide_stop : given_fits to s.given ≡ false → Begin rewrites r piece out too_wide r 0 0 (r.lines + 1) out
  wide_stop n = refused_stop rewrites rewriting_follows r piece out g s there is too_wide (omega arith) (refused_by ∙ rw n)

  pub text_few : length text ≤ 40
  text_few = few_line (of_salvage s.next) to (known_few to (other_known s.next.width)) s.given (subst (λ (q : Step). SmallGiven q.given) (sym is) (step_leaves r (take (length_to newline piece) piece) g).1)

  -- it fits, and its text was put or had no room
  module _ (fits : given_fits to s.given ≡ true) (t : Text) (made : t ≡ text_of text) where
    accepted : rewrites.refusal r (first_line piece) ≡ 0
    accepted = refused_by ∙ rw fits

    pub short_stop : fits_at t 0 out ≡ false → Begin rewrites r piece out 0 r 0 0 0 (put_of t 0 out)
    short_stop n =
        rw (put_none t 0 out n)
        (room_stop rewrites rewriting_follows r piece out g s there is accepted (omega (arith, ap length answer_is, put_short text t made text_few 0 out n, size text t made text_few 0 out)))

    pub text_taken : fits_at t 0 out ≡ true → Begin rewrites r piece out 0 s.next (length_to newline piece + 1) t.len 0 (put_of t 0 out)
    text_taken y =
        let long = size text t made text_few 0 out in
        let Taken : List ℕ → Type 0 = λ l. Begin rewrites r piece out 0 s.next (length_to newline piece + 1) (length l) 0 (l ++ drop (length l) out) in
        rw (put_wrote text t made text_few 0 out y, long, zero-add)
        (subst Taken answer_is (line_taken rewrites rewriting_follows r piece out g s there is accepted (omega (arith, ap length answer_is, put_room t 0 out y, long))))

-- where the loop ends
module _ {r₀ : Readback} {input out₀ : List ℕ} {r : Readback} {at used : ℕ} {out : List ℕ} (s : Stands rewrites r₀ input out₀ r at used out) where
  ends_rewriting : (n : ℕ) → run rewrites r₀ (lines_of input) (length out₀) ≡ ran n r s.answers → rewriting (rewritten n r at used (fault_at n r)) out ≡ pieces_of rewrite_lines r₀ input out₀
  unfolding pieces_of
  ends_rewriting n all = rw (all, s.taken_are, s.part.wrote, s.part.places_are)

  pub ends_rewriting_all : length input ≤ at → rewriting (rewritten 0 r at used 0) out ≡ pieces_of rewrite_lines r₀ input out₀
  ends_rewriting_all h = ends_rewriting 0 (ends_all rewrites rewriting_follows s h)

  pub ends_rewriting_before : (t : Rewritten) {last : List ℕ} → Rewrites r (drop at input) (drop used out) t last → t.taken ≡ 0
      → rewriting (rewritten t.refusal r at used t.line) out ≡ pieces_of rewrite_lines r₀ input out₀
  ends_rewriting_before t b z = rw (b.line_is z) (ends_rewriting t.refusal (ends_before rewrites rewriting_follows s b z))
