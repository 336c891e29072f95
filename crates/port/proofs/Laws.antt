-- The laws of the port: what a tty delivers comes back; bytes in any cut; only legal words; a silence is told once, and
-- only when the waits make it up.
use Prim.Native.Nat.{ℕ, ◌+◌, ◌-◌, ◌<◌, ◌≤◌}
use mathlib.Core.Path.{◌≡◌, refl, sym, ◌∙◌, ap}
use mathlib.Core.Bool.{Bool, true, false, cond}
use mathlib.Core.List.{List, [], ◌∷◌, ◌++◌}
use native.Mathlib.Omega.{arith}
use lib.Dec.{eqb, leb, ltb}
use lib.ListN.{length, drop}
use borrow.Author.Tests.{eqb-true, eqb-false, ltb-true, ltb-false, le-leb, lt-leb, ne_eqb, leb-true, leb-false}
use Rattle.numbers.proofs.Rows.{number_low}
use Rattle.frames.specs.Words.{silence, line_words}
use Rattle.fold.specs.Fold.{written, answers_over, state_over}
use Rattle.fold.specs.Calls.{Each, unused, as_one}
use Rattle.fold.proofs.Calls as calls
use Rattle.port.specs.Marks.{port, opened, cleared, mark, plain, behind_mark, byte_of, quiet_of}
use Rattle.port.specs.Line as line
use Rattle.port.specs.Delivered.{Came, sound, damaged, broken, delivered, line_of}
use Rattle.port.specs.Sessions.{words_over, waits, sum}
use Rattle.port.specs.Promises.{BytePromise, BytesPromise}
use Rattle.port.specs.declared.Port.{Port}
use Rattle.port.specs.declared.Heard.{Heard}
use Rattle.port.specs.declared.Words.{Words}
use Rattle.port.proofs.Loop.{lawful}

-- what comes back for one word, and then the rest
abbrev Back : ℕ → ℕ → List ℕ → List ℕ → Type 0
Back c q raw words =
    (written line.hears (answers_over line.hears (opened c q) raw) ≡ words) × (state_over line.hears (opened c q) raw ≡ opened c q)

sound_back : (c q b : ℕ) (rest words : List ℕ) (t : Bool) → eqb b mark ≡ t → Back c q rest words
    → Back c q (cond t (mark ∷ mark ∷ []) (b ∷ []) ++ rest) (cleared c b ∷ words)
unfolding byte_of plain behind_mark answers_over state_over
sound_back c q b rest words true e h = (rw (eqb-true b mark e) (ap (λ (l : List ℕ). cleared c mark ∷ l) h.0), h.1)
sound_back c q b rest words false e h = (rw e (ap (λ (l : List ℕ). cleared c b ∷ l) h.0), rw e h.1)

back : (c q : ℕ) (came : List Came) → Back c q (delivered came) (line_of c came)
unfolding byte_of plain behind_mark answers_over state_over
back c q [] = (refl, refl)
back c q (sound b ∷ came) = sound_back c q b (delivered came) (line_of c came) (eqb b mark) refl (back c q came)
back c q (damaged b ∷ came) = let h = back c q came in (ap (λ (l : List ℕ). 256 ∷ l) h.0, h.1)
back c q (broken ∷ came) = let h = back c q came in (ap (λ (l : List ℕ). 256 ∷ l) h.0, h.1)

-- every byte is taken, where there is room for the words
abbrev any : ℕ → Type 0
any b = Unit {0}

each_any : (raw : List ℕ) → Each any raw
each_any [] = tt
each_any (b ∷ raw) = (tt, each_any raw)

module _ (p : Port) (raw out : List ℕ) where
  abbrev pub words : List ℕ
  words = written line.hears (answers_over line.hears p raw)

  pub all_taken : (a : Words) (x : List ℕ) → BytesPromise p raw out a x → length words ≤ length out
      → (a.taken ≡ length raw) × (a.next ≡ state_over line.hears p raw) × (x ≡ words ++ drop (length words) out) × (a.written ≡ length words)
  all_taken a x e h =
      let n = calls.places_sum line.hears_bytes lawful (answers_over line.hears p raw) in
      let i = calls.took_each line.hears_bytes lawful any (λ p b g u. refl) p raw out refl (each_any raw) (omega (arith, n)) e in (
        ap (λ (l : line.Long). l.taken) i,
        ap (λ (l : line.Long). l.next) i,
        ap (λ (l : line.Long). l.out) i ∙ rw (← n),
        ap (λ (l : line.Long). l.counts) i ∙ sym n,
      )

-- What a tty delivers for what came on the line comes back as its words, all of it, and the port holds no mark.
pub round_trip : (c q : ℕ) (came : List Came) (out : List ℕ) (a : Words) (x : List ℕ)
    → BytesPromise (opened c q) (delivered came) out a x
    → length (line_of c came) ≤ length out
    → (a.taken ≡ length (delivered came)) × (a.next ≡ opened c q) × (x ≡ line_of c came ++ drop (length (line_of c came)) out)
round_trip c q came out a x e h =
    let b = back c q came in
    let t = all_taken (opened c q) (delivered came) out a x e (rw b.0 h) in
    (t.0, t.1 ∙ b.1, t.2 ∙ rw b.0)

-- Bytes in any cut: where the first part was all taken, the two calls join as one.
pub joins : (p : Port) (raw more out : List ℕ) (a b c : Words) (x y z : List ℕ)
    → BytesPromise p raw out a x
    → a.taken ≡ length raw
    → BytesPromise a.next more (unused line.hears_bytes (line.whole a x)) b y
    → BytesPromise p (raw ++ more) out c z
    → line.whole c z ≡ as_one line.hears_bytes (line.whole a x) (line.whole b y)
joins p raw more out a b c x y z e t f g = calls.joining line.hears_bytes lawful p raw more out e t f g

-- Only legal words.
legal_word : (w : ℕ) → w ≤ 257 → line_words (w ∷ []) ≡ true
unfolding line_words
legal_word w h = rw (le-leb w silence h)

cleared_small : (c b : ℕ) (t : Bool) → eqb c 0 ≡ t → b ≤ 255 → cleared c b ≤ 257
unfolding cleared
cleared_small c b true e h = rw e (omega arith)
cleared_small c b false e h = rw (e, number_low 7) (omega arith)

plain_legal : (p : Port) (b : ℕ) (t : Bool) → eqb b mark ≡ t → b ≤ 255 → line_words (line.words_in (plain p b).given) ≡ true
unfolding plain line_words
plain_legal p b true e h = rw e
plain_legal p b false e h = rw e (legal_word (cleared p.clears b) (cleared_small p.clears b (eqb p.clears 0) refl h))

behind_legal : (p : Port) (b : ℕ) (t u : Bool) → eqb b mark ≡ t → eqb b 0 ≡ u → line_words (line.words_in (behind_mark p b).given) ≡ true
unfolding behind_mark line_words
behind_legal p b true u e f = rw e (legal_word (cleared p.clears mark) (cleared_small p.clears mark (eqb p.clears 0) refl (omega arith)))
behind_legal p b false true e f = rw (e, f)
behind_legal p b false false e f = rw (e, f)

byte_legal_by : (p : Port) (b : ℕ) (t u : Bool) → eqb p.held 0 ≡ t → eqb p.held 1 ≡ u → b ≤ 255
    → line_words (line.words_in (byte_of p b).given) ≡ true
unfolding byte_of line_words
byte_legal_by p b true u e f h = rw e (plain_legal p b (eqb b mark) refl h)
byte_legal_by p b false true e f h = rw (e, f) (behind_legal p b (eqb b mark) (eqb b 0) refl refl)
byte_legal_by p b false false e f h = rw (e, f)

pub byte_legal : (p : Port) (b : ℕ) (a : Heard) → b ≤ 255 → BytePromise p b a → line_words (line.words_in a.given) ≡ true
byte_legal p b a h e = rw e (byte_legal_by p b (eqb p.held 0) (eqb p.held 1) refl refl h)

-- A silence is told once, and only when the waits since the last byte make up its length.
unfoldable pub told : ℕ → ℕ → List ℕ
told left waited = cond (eqb left 0) [] (cond (leb left waited) (silence ∷ []) [])

told_less : (left w s : ℕ) → w < left → told (left - w) s ≡ told left (w + s)
unfolding told
told_less left w s h =
    let n : left ≡ 0 → ⊥ = λ e. omega (arith, e) in
    let m : left - w ≡ 0 → ⊥ = λ e. omega (arith, e) in
    rw (ne_eqb left 0 n, ne_eqb (left - w) 0 m) (go (leb left (w + s)) refl)
  where
    go : (t : Bool) → leb left (w + s) ≡ t → cond (leb (left - w) s) (silence ∷ []) [] ≡ cond t (silence ∷ []) []
    go true e = let l = leb-true left (w + s) e in rw (le-leb (left - w) s (omega (arith, l)))
    go false e = let l = leb-false left (w + s) e in rw (lt-leb (left - w) s (omega (arith, l)))

one_more_lem : (held c q left w : ℕ) (ws : List ℕ) (t u : Bool)
    → ((h l : ℕ) → words_over (port h c q l) (waits ws) ≡ told l (sum ws))
    → eqb left 0 ≡ t
    → ltb w left ≡ u
    → words_over (port held c q left) (waits (w ∷ ws)) ≡ told left (w + sum ws)
unfolding words_over quiet_of told
one_more_lem held c q left w ws true u ih e f = rw e (ih held 0)
one_more_lem held c q left w ws false true ih e f = rw (e, f) (ih held (left - w) ∙ told_less left w (sum ws) (ltb-true w left f) ∙ rw e)
one_more_lem held c q left w ws false false ih e f =
    let l = ltb-false w left f in rw (e, f, le-leb left (w + sum ws) (omega (arith, l))) (ap (λ (l : List ℕ). silence ∷ l) (ih 0 0))

none_yet : (left : ℕ) (t : Bool) → eqb left 0 ≡ t → [] ≡ told left 0
unfolding told
none_yet left true e = rw e
none_yet left false e = rw (e, lt-leb left 0 (let n = eqb-false left 0 e in omega (arith, n)))

pub over_by : (held c q left : ℕ) (ws : List ℕ) → words_over (port held c q left) (waits ws) ≡ told left (sum ws)
unfolding words_over sum
over_by held c q left [] = none_yet left (eqb left 0) refl
over_by held c q left (w ∷ ws) = one_more_lem held c q left w ws (eqb left 0) (ltb w left) (λ h l. over_by h c q l ws) refl refl

over : (p : Port) (ws : List ℕ) → words_over p (waits ws) ≡ told p.left (sum ws)
over p = over_by p.held p.clears p.silence p.left

-- A silence: none before the waits make up its length, one when they do, and no more until a byte has come; a port whose
-- silence is 0 tells none.
pub silence_told : (p : Port) (ws : List ℕ) → 0 < p.left → p.left ≤ sum ws → words_over p (waits ws) ≡ silence ∷ []
unfolding told
silence_told p ws h k = over p ws ∙ rw (ne_eqb p.left 0 (λ e. omega (arith, e)), le-leb p.left (sum ws) k)

pub silence_not_yet : (p : Port) (ws : List ℕ) → sum ws < p.left → words_over p (waits ws) ≡ []
unfolding told
silence_not_yet p ws k = over p ws ∙ rw (ne_eqb p.left 0 (λ e. omega (arith, e)), lt-leb p.left (sum ws) k)

pub silence_told_once : (p : Port) (ws : List ℕ) → p.left ≡ 0 → words_over p (waits ws) ≡ []
unfolding told
silence_told_once p ws e = over p ws ∙ rw e

-- after any byte the whole length must be waited again
by_held : (p : Port) (b : ℕ) (t u v w : Bool) → eqb p.held 0 ≡ t → eqb p.held 1 ≡ u → eqb b mark ≡ v → eqb b 0 ≡ w
    → (byte_of p b).next.left ≡ p.silence
unfolding byte_of plain behind_mark
by_held p b true u true w e f g h = rw (e, g)
by_held p b true u false w e f g h = rw (e, g)
by_held p b false true true w e f g h = rw (e, f, g)
by_held p b false true false true e f g h = rw (e, f, g, h)
by_held p b false true false false e f g h = rw (e, f, g, h)
by_held p b false false v w e f g h = rw (e, f)

pub byte_restarts : (p : Port) (b : ℕ) (a : Heard) → BytePromise p b a → a.next.left ≡ p.silence
byte_restarts p b a e = rw e (by_held p b (eqb p.held 0) (eqb p.held 1) (eqb b mark) (eqb b 0) refl refl refl refl)
