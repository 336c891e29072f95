-- How far the first of a byte stands in bytes.
use Rattle.std.specs.Prelude.{ℕ, suc, cond, List, [], ◌∷◌, eqb}

-- the bytes in front of the first that is this one, or all where none is
abbrev pub length_to : ℕ → List ℕ → ℕ
length_to b [] = 0
length_to b (c ∷ cs) = cond (eqb c b) 0 (suc (length_to b cs))
