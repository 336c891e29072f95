-- Once so many bytes are read, nothing that follows changes the salvage: the recording has ended, or a word too many was heard.
use Rattle.std.proofs.Common.{Option, None, Some}
use Prim.Native.Nat.{ℕ, ◌+◌, ◌≤◌, ◌<◌}
use mathlib.Core.Path.{◌≡◌, refl, sym, ◌∙◌, ap, subst}
use mathlib.Core.Bool.{true}
use mathlib.Core.Logic.{◌⊎◌, inl, inr, ⊎_elim}
use mathlib.Core.List.{List, [], ◌∷◌, ◌++◌}
use native.Mathlib.Omega.{arith}
use lib.Dec.{leb}
use lib.ListN.{length, length-append}
use borrow.Author.Tests.{leb-false}
use Rattle.numbers.proofs.Choices.{cases}
use Rattle.salvage.specs.Picking.{most_words}
use Rattle.listing.specs.Scanning.{unfed, scanned_byte, passed}
use Rattle.listing.specs.declared.Scanner.{Scanner}
use Rattle.listing.specs.declared.Found.{Found}
use Rattle.listing.specs.declared.Found.TheVariants as found
use Rattle.listing.specs.declared.Item.{Item}
use Rattle.listing.specs.declared.Item.TheVariants as item
use Rattle.listing.proofs.Scanned.{all_found}
use Rattle.listing.proofs.Ended.{Within, byte_over, byte_on, none_told}
use Rattle.listing.proofs.Viewed.{View, is_over, is_bad, is_format, is_word, Passes, ended, within, behind, passes}
use Rattle.salvaged.specs.Log.{Log, empty, word_heard, new_heard, heard, heard_all}
use Rattle.salvaged.specs.Items.{items_of}
use Rattle.salvaged.specs.Listing.{lines_of, text_of, salvage_of}
use Rattle.salvaged.specs.Whole.{decides}
use Rattle.salvaged.proofs.Hearing.{heard_new, heard_behind, nothing_heard, told_heard, all_heard}

-- nothing more is heard: something stands alone, or the recording has ended
abbrev Alone : Log → Type 0
Alone l = (i : Item) × (l.alone ≡ Some i)

abbrev Shut : Log → Scanner → Type 0
Shut l s = Alone l ⊎ (s.ended ≡ true)

-- or there is a word for each line that has passed but the format's
record Open (l : Log) (s : Scanner) : Type 0 where
  pub lines : s.line ≤ length l.words + 1
  pub few : length l.words ≤ most_words
  pub on : Within s

alone_stays : (fs : List Found) (l : Log) → Alone l → heard_all l fs ≡ l
unfolding heard_all
alone_stays [] l a = refl
alone_stays (f ∷ fs) l a = rw (heard_behind l f a.1) (alone_stays fs l a)

shut_says : (q : List ℕ) (l : Log) (s : Scanner) → Shut l s → heard_all l (all_found s q) ≡ l
unfolding heard_all
shut_says q l s (inl a) = alone_stays (all_found s q) l a
shut_says q l s (inr e) = told_heard (all_found s q) l ∙ ap (heard_all l) (none_told q s e)

-- a byte more
shut_stays : (l : Log) (s : Scanner) (c : ℕ) → Shut l s → Shut (heard l (scanned_byte s c).found) (scanned_byte s c).next
shut_stays l s c (inl a) = inl (subst Alone (sym (heard_behind l (scanned_byte s c).found a.1)) a)
shut_stays l s c (inr e) = inr (byte_over s c e).0

-- what was found on a line, where nothing stands alone yet
abbrev Counts : ℕ → Log → Type 0
Counts n l = Alone l ⊎ ((n + 1 ≤ length l.words + 1) × (length l.words ≤ most_words))

word_counts : (n : ℕ) (l : Log) (w : ℕ) → n ≤ length l.words + 1 → Counts n (word_heard l w)
unfolding word_heard
word_counts n l w h =
    cases (Counts n) (leb most_words (length l.words)) (λ _. inl (item.Over, refl))
    (λ e. inr (omega (arith, length-append l.words (w ∷ [])), omega (arith, length-append l.words (w ∷ []), leb-false most_words (length l.words) e)))

found_counts : (n : ℕ) (l : Log) (f : Found) → View n f → n ≤ length l.words + 1 → length l.words ≤ most_words → Counts n (heard l f)
found_counts n l f v h few = go l.alone refl
  where
    new : (f : Found) → View n f → Counts n (new_heard l f)
    new found.Nothing w = elim w [ ]
    new found.End w = elim w [ ]
    new found.Over is_over = inl (item.Over, refl)
    new (found.Bad m) (is_bad p) = inl (item.E (n + 1), refl)
    new (found.Format x) (is_format z p) = inr (omega arith, few)
    new (found.Word m w) (is_word q p) = word_counts n l w h

    go : (g : Option Item) → l.alone ≡ g → Counts n (heard l f)
    go None e = subst (Counts n) (sym (heard_new l f e)) (new f v)
    go (Some i) e = inl (subst Alone (sym (heard_behind l f e)) (i, e))

byte_counts : (l : Log) (s : Scanner) (c : ℕ) → Open l s
    → let k = scanned_byte s c in Shut (heard l k.found) k.next ⊎ ((k.next.line ≤ length (heard l k.found).words + 1) × (length (heard l k.found).words ≤ most_words))
byte_counts l s c o = go (passes s c)
  where
    go : let k = scanned_byte s c in Passes s k → Shut (heard l k.found) k.next ⊎ ((k.next.line ≤ length (heard l k.found).words + 1) × (length (heard l k.found).words ≤ most_words))
    go (ended e) = inl (inr e)
    go (within n e) = let same = ap (heard l) n ∙ nothing_heard l in rw (same, e) (inr (o.lines, o.few))
    go (behind v e) = ⊎_elim (λ a. inl (inl a)) (λ k. inr (rw e k.0, k.1)) (found_counts s.line l (scanned_byte s c).found v o.lines o.few)

byte_open : (l : Log) (s : Scanner) (c : ℕ) → Open l s → let k = scanned_byte s c in Shut (heard l k.found) k.next ⊎ (Open (heard l k.found) k.next × (passed s < passed k.next))
byte_open l s c o =
    ⊎_elim (λ e. inl (inr e)) (λ p. ⊎_elim inl (λ k. inr (record { lines = k.0; few = k.1; on = p.1 }, p.0)) (byte_counts l s c o)) (byte_on s c o.on)

-- bytes, of which there are so many
abbrev Decided : Log → Scanner → List ℕ → Type 0
Decided l s input = Shut l s ⊎ (Open l s × (decides ≤ passed s + length input))

same : (input q : List ℕ) (l : Log) (s : Scanner) → Decided l s input → heard_all l (all_found s (input ++ q)) ≡ heard_all l (all_found s input)
unfolding heard_all all_found
same [] q l s (inl d) = shut_says q l s d ∙ sym (shut_says [] l s d)
same [] q l s (inr o) = absurd (omega (arith, o.0.lines, o.0.few, o.0.on.1, o.1))
same (c ∷ cs) q l s d =
    let k = scanned_byte s c in
    same cs q (heard l k.found) k.next
    (⊎_elim (λ h. inl (shut_stays l s c h)) (λ o. ⊎_elim inl (λ p. inr (p.0, omega (arith, p.1, o.1))) (byte_open l s c o.0)) d)

-- SETTLES: what is not read does not matter
pub settles : (input q : List ℕ) → decides ≤ length input → salvage_of (input ++ q) ≡ salvage_of input
unfolding salvage_of
settles input q h =
    let fresh : Open empty unfed = record { lines = omega arith; few = omega arith; on = (omega arith, omega arith) } in
    ap (λ (l : Log). text_of (lines_of (items_of l))) (sym (all_heard (input ++ q)) ∙ same input q empty unfed (inr (fresh, omega arith)) ∙ all_heard input)
