-- How a program goes on: it begins, reads, writes and ends.
use Rattle.std.proofs.Common.{◌≡◌, ℕ, suc, ◌-◌, ◌<◌, arith, Bool, true, false, List, [], ◌++◌, length, take, drop, sym, refl, ap, ◌∙◌, subst, inl, inr, true≢false, append_assoc, append-nil, take-append-drop}
use borrow.Author.Tests.{leb-true}
use lib.Dec.{leb}
use lib.Seq.{take-length}
use Rattle.shell.specs.Outside.{Trace, Over, heard_in, Reads, Misses, Hears, Handed, Said}
use Rattle.shell.specs.Standing.{Program, Stands, Closes, Settled, Fronts, Done, Failed, unread, unwritten, unsaid, Ends, Left, Leaves}
use Rattle.shell.specs.Filters.{most_reads}

-- bytes, of which the first so many were handed out
split : (n : ℕ) (outs bytes left : List ℕ) → outs ++ (bytes ++ left) ≡ (outs ++ take n bytes) ++ (drop n bytes ++ left)
split n outs bytes left =
    ap (λ (l : List ℕ). outs ++ (l ++ left)) (sym (take-append-drop n bytes))
    ∙ ap (λ (l : List ℕ). outs ++ l) (append_assoc (take n bytes) (drop n bytes) left)
    ∙ sym (append_assoc outs (take n bytes) (drop n bytes ++ left))

module _ (p : Program) where
  pub begins : (t : ℕ) → Trace t [] [] [] → Stands p t p.writes p.says
  begins t traced = record { ins = []; outs = []; traced = traced; so = λ q. refl; tells = λ q. refl }

  -- the same, in other words
  pub reworded : (t : ℕ) (rest rest' told told' : List ℕ → List ℕ) → Stands p t rest told → ((q : List ℕ) → rest q ≡ rest' q)
      → ((q : List ℕ) → told q ≡ told' q) → Stands p t rest' told'
  reworded t rest rest' told told' s e f =
      record {
        ins = s.ins;
        outs = s.outs;
        traced = s.traced;
        so = λ q. s.so q ∙ ap (λ (l : List ℕ). s.outs ++ l) (e q);
        tells = λ q. s.tells q ∙ f q;
      }

  -- bytes more, or a wait, stand behind what was read
  further : (t t' : ℕ) (rest told : List ℕ → List ℕ) (s : Stands p t rest told) (heard : List ℕ) → Trace t' (s.ins ++ heard) s.outs []
      → Stands p t' (λ q. rest (heard ++ q)) (λ q. told (heard ++ q))
  further t t' rest told s heard traced =
      record {
        ins = s.ins ++ heard;
        outs = s.outs;
        traced = traced;
        so = λ q. ap p.writes (append_assoc s.ins heard q) ∙ s.so (heard ++ q);
        tells = λ q. ap p.says (append_assoc s.ins heard q) ∙ s.tells (heard ++ q);
      }

  -- a read that failed
  pub misses : (t t' : ℕ) (rest told : List ℕ → List ℕ) → Stands p t rest told → Misses p.input t t' → Failed p t'
  misses t t' rest told s m =
      let f = m.fails s.ins s.outs [] s.traced in
      record { ins = s.ins; outs = s.outs; errs = f.more; traced = f.traced; front = inr (rest, s.so); told = unread f.told }

  -- a read
  pub reads : (t t' n : ℕ) (part : List ℕ) (rest told : List ℕ → List ℕ) → Stands p t rest told → Reads t t' n part
      → Stands p t' (λ q. rest (take n part ++ q)) (λ q. told (take n part ++ q))
  reads t t' n part rest told s b = further t t' rest told s (take n part) (b.reads s.ins s.outs [] s.traced)

  -- a read of a tty
  pub hears : (t t' n : ℕ) (part : List ℕ) (rest told : List ℕ → List ℕ) → Stands p t rest told → Hears t t' n part → 0 < length part
      → Stands p t' (λ q. rest (heard_in (take n part) ++ q)) (λ q. told (heard_in (take n part) ++ q))
  hears t t' n part rest told s b some = further t t' rest told s (heard_in (take n part)) (b.reads some s.ins s.outs [] s.traced)

  -- a write of what is to be written next
  module _ (t t' : ℕ) (well : Bool) (bytes : List ℕ) (rest later told : List ℕ → List ℕ) (s : Stands p t rest told) (e : (q : List ℕ) → rest q ≡ bytes ++ later q)
      (h : Handed p.output t t' well bytes) where
    pub writes : well ≡ true → Stands p t' later told
    writes w =
        record {
          ins = s.ins;
          outs = s.outs ++ bytes;
          traced = h.writes w s.ins s.outs [] s.traced;
          so = λ q. s.so q ∙ ap (λ (l : List ℕ). s.outs ++ l) (e q) ∙ sym (append_assoc s.outs bytes (later q));
          tells = s.tells;
        }

    pub fails_writing : well ≡ false → Failed p t'
    fails_writing w =
        let f = h.fails w s.ins s.outs [] s.traced in
        let n = f.0 in
        record {
          ins = s.ins;
          outs = s.outs ++ take n bytes;
          errs = f.1.more;
          traced = f.1.traced;
          front = inr (λ q. drop n bytes ++ later q, λ q. s.so q ∙ ap (λ (l : List ℕ). s.outs ++ l) (e q) ∙ split n s.outs bytes (later q));
          told = unwritten f.1.told;
        }

  -- nothing more is read: the input is over
  pub over : (t : ℕ) (rest told : List ℕ → List ℕ) → Stands p t rest told → Over t → Closes p t (rest []) (told [])
  over t rest told s v =
      let whole = sym (append-nil s.ins) in
      record { ins = s.ins; outs = s.outs; traced = s.traced; so = ap p.writes whole ∙ s.so []; tells = ap p.says whole ∙ s.tells []; settled = inl v }

  -- or what follows would change nothing
  pub settled : (t : ℕ) (rest told : List ℕ → List ℕ) (left last : List ℕ) → Stands p t rest told → ((q : List ℕ) → rest q ≡ left)
      → ((q : List ℕ) → told q ≡ last) → Closes p t left last
  settled t rest told left last s e f =
      let whole = sym (append-nil s.ins) in
      let wrote : (q : List ℕ) → p.writes (s.ins ++ q) ≡ s.outs ++ left = λ q. s.so q ∙ ap (λ (l : List ℕ). s.outs ++ l) (e q) in
      let said : (q : List ℕ) → p.says (s.ins ++ q) ≡ last = λ q. s.tells q ∙ f q in
      let so = ap p.writes whole ∙ wrote [] in
      let tells = ap p.says whole ∙ said [] in
      record { ins = s.ins; outs = s.outs; traced = s.traced; so = so; tells = tells; settled = inr (λ q. (wrote q ∙ sym so, said q ∙ sym tells)) }

  -- what was handed out is a front, though a part of it failed
  fronts : (t t' : ℕ) (left told : List ℕ) (c : Closes p t left told) (outs more : List ℕ) → (Over t → Over t') → c.outs ++ left ≡ outs ++ more
      → Fronts p t' c.ins outs
  fronts t t' left told c outs more still e = go c.settled
    where
      go : Settled p t c.ins → Fronts p t' c.ins outs
      go (inl v) = inl (still v, (more, c.so ∙ e))
      go (inr n) = inr (λ q. more, λ q. (n q).0 ∙ c.so ∙ e)

  stays : (t t' : ℕ) (ins : List ℕ) → (Over t → Over t') → Settled p t ins → Settled p t' ins
  stays t t' ins still (inl v) = inl (still v)
  stays t t' ins still (inr n) = inr n

  -- the next of the last bytes
  module _ (t t' : ℕ) (well : Bool) (bytes left told : List ℕ) (c : Closes p t (bytes ++ left) told) (h : Handed p.output t t' well bytes) where
    pub shows : well ≡ true → Closes p t' left told
    shows w =
        record {
          ins = c.ins;
          outs = c.outs ++ bytes;
          traced = h.writes w c.ins c.outs [] c.traced;
          so = c.so ∙ sym (append_assoc c.outs bytes left);
          tells = c.tells;
          settled = stays t t' c.ins h.still c.settled;
        }

    pub fails_showing : well ≡ false → Failed p t'
    fails_showing w =
        let f = h.fails w c.ins c.outs [] c.traced in
        let n = f.0 in
        record {
          ins = c.ins;
          outs = c.outs ++ take n bytes;
          errs = f.1.more;
          traced = f.1.traced;
          front = fronts t t' (bytes ++ left) told c (c.outs ++ take n bytes) (drop n bytes ++ left) h.still (split n c.outs bytes left);
          told = unwritten f.1.told;
        }

  -- nothing is left
  pub done : (t : ℕ) → Closes p t [] [] → Done p t
  done t c =
      record {
        ins = c.ins;
        outs = c.outs;
        traced = subst (Trace t c.ins c.outs) (sym c.tells) c.traced;
        all = sym (c.so ∙ append-nil c.outs);
        settled = c.settled;
      }

  pub ends : (t : ℕ) → Closes p t [] [] → Ends p t true
  ends t c = record { done = λ _. done t c; failed = λ w. absurd (true≢false w) }

  pub fails : (t : ℕ) → Failed p t → Ends p t false
  fails t f = record { done = λ w. absurd (true≢false (sym w)); failed = λ _. f }

  -- the last bytes, and nothing to tell
  pub last : (t t' : ℕ) (well : Bool) (bytes : List ℕ) → Closes p t bytes [] → Handed p.output t t' well bytes → Ends p t' well
  last t t' well bytes c h =
      let c' : Closes p t (bytes ++ []) [] = subst (λ (l : List ℕ). Closes p t l []) (sym (append-nil bytes)) c in
      record { done = λ w. done t' (shows t t' well bytes [] [] c' h w); failed = fails_showing t t' well bytes [] [] c' h }

  -- the last words, and nothing to write
  pub tells : (t t' : ℕ) (well : Bool) (told : List ℕ) → Closes p t [] told → Said t t' well told → Ends p t' well
  tells t t' well told c h =
      record {
        done = λ w. record {
          ins = c.ins;
          outs = c.outs;
          traced = subst (Trace t' c.ins c.outs) (sym c.tells) (h.says w c.ins c.outs [] c.traced);
          all = sym (c.so ∙ append-nil c.outs);
          settled = stays t t' c.ins h.still c.settled;
        };
        failed = λ w. let f = h.fails w c.ins c.outs [] c.traced in record {
          ins = c.ins;
          outs = c.outs;
          errs = take f.0 told;
          traced = f.1;
          front = fronts t t' [] told c c.outs [] h.still refl;
          told = unsaid f.0 (ap (take f.0) (sym c.tells));
        };
      }

  -- a program that listens ends: nothing is left to be written, and this was told
  pub leaves : (t t' : ℕ) (rest told : List ℕ → List ℕ) (well : Bool) → Stands p t rest told → rest [] ≡ [] → Said t t' well (told []) → Left p t'
  leaves t t' rest told well s none h = go well refl
    where
      whole : s.ins ++ [] ≡ s.ins
      whole = append-nil s.ins

      says : p.says s.ins ≡ told []
      says = ap p.says (sym whole) ∙ s.tells []

      all : s.outs ≡ p.writes s.ins
      all = sym (ap p.writes (sym whole) ∙ s.so [] ∙ ap (λ (l : List ℕ). s.outs ++ l) none ∙ append-nil s.outs)

      told_all : take (length (told [])) (p.says s.ins) ≡ told []
      told_all = ap (take (length (told []))) says ∙ take-length (told [])

      go : (w : Bool) → well ≡ w → Left p t'
      go true e =
          record {
            ins = s.ins;
            outs = s.outs;
            count = length (told []);
            traced = subst (Trace t' s.ins s.outs) (sym told_all) (h.says e s.ins s.outs [] s.traced);
            all = all;
          }
      go false e =
          let f = h.fails e s.ins s.outs [] s.traced in
          record {
            ins = s.ins;
            outs = s.outs;
            count = f.0;
            traced = subst (Trace t' s.ins s.outs) (ap (take f.0) (sym says)) f.1;
            all = all;
          }

  pub left : (t : ℕ) → Left p t → Leaves p t true
  left t l = record { left = λ _. l; failed = λ w. absurd (true≢false w) }

  pub breaks_off : (t : ℕ) → Failed p t → Leaves p t false
  breaks_off t f = record { left = λ w. absurd (true≢false (sym w)); failed = λ _. f }

-- a number within a bound that is below the reads of a run is so, too
pub few_left : (most n : ℕ) → leb (suc most) most_reads ≡ true → most - n < most_reads
few_left most n h = let k = leb-true (suc most) most_reads h in omega (arith, k)
