-- "Four useless programs have to be caught": a reader that refuses everything, word by word or in long reads. What the others are is
-- in specs/Strength.
use Rattle.std.specs.Prelude.{ℕ, zero, suc, ◌≡◌, refl, List, [], ◌∷◌, get_or, replicate, ℤ, pos}
use Rattle.std.proofs.Common.{zero-le, ap, arith, lit≤}
use mathlib.Core.List.Memᴰ
use Rattle.std.proofs.Math.ListN.{get_or-eq_default}
use Rattle.wire.specs.Line.{letter_of}
use Rattle.wire.specs.Numbers.{success, accepted, refusal}
use Rattle.wire.specs.declared.Format.TheVariants.{Mm}
use Rattle.reader.specs.Line.{Long, reading}
use Rattle.reader.specs.Promises as reader
use Rattle.reader.specs.Runs.{StepsPromise, answers}
use Rattle.reader.specs.declared.Reader.{Reader}
use Rattle.reader.specs.State.{Read}
use Rattle.reader.specs.declared.Answer.TheVariants as answer
use Rattle.reader.proofs.Refusals.{step_refusals}
use Rattle.demands.specs.Strength.{ReaderProgram, KeepsReading}
use Rattle.demands.specs.Worked.{marked_s, exactly_s}

steps_by : ReaderProgram → Reader → List ℕ → List Read
steps_by p r [] = []
steps_by p r (w ∷ words) = p.step r w ∷ steps_by p (p.step r w).next words

steps_kept : (p : ReaderProgram)
    → KeepsReading p
    → (r : Reader) (words : List ℕ)
    → StepsPromise r words (steps_by p r words)
unfolding steps_by StepsPromise
steps_kept p k r [] = tt
steps_kept p k r (w ∷ words) = (k.step r w, steps_kept p k (p.step r w).next words)

-- a refusal answers nothing
refused_nothing : (r : Reader) (w : ℕ) (s : Read)
    → reader.StepPromise r w s
    → (s.refusal ≡ success → ⊥)
    → s.answer ≡ answer.Nothing
refused_nothing r w s p n = go (step_refusals r w s p)
  where
    go : reader.StepRefusal r s → s.answer ≡ answer.Nothing
    go (accepted e) = absurd (n e)
    go (refusal (Memᴰ.head e)) = ap (λ (x : Read). x.answer) e
    go (refusal (Memᴰ.tail (Memᴰ.head e))) = ap (λ (x : Read). x.answer) e
    go (refusal (Memᴰ.tail (Memᴰ.tail m))) = elim m [ ]

all_nothing : (p : ReaderProgram)
    → KeepsReading p
    → ((r : Reader) (w : ℕ) → (p.step r w).refusal ≡ success → ⊥)
    → (r : Reader) (words : List ℕ) (i : ℕ)
    → get_or (answers (steps_by p r words)) i answer.Nothing ≡ answer.Nothing
unfolding steps_by
all_nothing p k n r [] i = get_or-eq_default [] answer.Nothing (zero-le {n = i})
all_nothing p k n r (w ∷ words) zero = refused_nothing r w (p.step r w) (k.step r w) (n r w)
all_nothing p k n r (w ∷ words) (suc i) = all_nothing p k n (p.step r w).next words i

-- "a reader that refuses everything (3 shuts it out, over 2's reports)": of the words of a box, with a stretch replaced, it would hand out nothing
pub no_refusing_reader : (p : ReaderProgram)
    → KeepsReading p
    → ((r : Reader) (w : ℕ) → (p.step r w).refusal ≡ success → ⊥)
    → ⊥
no_refusing_reader p k n =
    let a = p.fresh (letter_of Mm) in
    let words : List ℕ = 0x90 ∷ 0x9A ∷ 0x7F ∷ 0xFF ∷ 0x9C ∷ 0x00 ∷ 0x00 ∷ [] in
    let handed = marked_s.by_steps a (steps_by p a.reader words) (k.fresh (letter_of Mm)) (steps_kept p k a.reader words) in
    let nothing = all_nothing p k n a.reader words 6 in
    let z : ◌≡◌ {A = ℕ} 0 1 = cc in
    omega arith

-- the long read likewise: one that refuses every line of one word or more
pub no_refusing_read : (read : Reader → List ℕ → List ℤ → Long)
    → ((r : Reader) (words : List ℕ) (out : List ℤ) → reader.ReadPromise r words out (reading (read r words out)) (read r words out).out)
    → ((r : Reader) (w : ℕ) (words : List ℕ) (out : List ℤ) → (read r (w ∷ words) out).refusal ≡ success → ⊥)
    → ⊥
no_refusing_read read keeps refuses =
    let a = reader.fresh_of (letter_of Mm) in
    let words : List ℕ = 0x03 ∷ 257 ∷ 0x9C ∷ 0x00 ∷ 0x00 ∷ [] in
    let out : List ℤ = replicate 5 (pos 0) in
    let l = read a.reader (0x90 ∷ words) out in
    refuses a.reader 0x90 words out ((exactly_s a refl).by_read out l.out (reading l) (keeps a.reader (0x90 ∷ words) out) (lit≤ tt)).refusal
