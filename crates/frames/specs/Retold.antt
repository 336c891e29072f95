-- A line of which each report is told as one of another kind.
use Rattle.std.specs.Prelude.{List, [], ◌∷◌}
use Rattle.frames.specs.Passages.{Passage, silent, finished, broken, UnderWay, nothing, first}
use Rattle.frames.specs.Sender.{Told, told}

module _ {K L : Type 0} (kind : K → L) where
  abbrev pub passage_as : Passage K → Passage L
  passage_as silent = silent
  passage_as (finished k) = finished (kind k)
  passage_as (broken n k) = broken n (kind k)

  abbrev pub passages_as : List (Passage K) → List (Passage L)
  passages_as [] = []
  passages_as (p ∷ passages) = passage_as p ∷ passages_as passages

  abbrev pub under_way_as : UnderWay K → UnderWay L
  under_way_as nothing = nothing
  under_way_as (first n k) = first n (kind k)

  -- what a step tells
  abbrev pub told_as : Told K → Told L
  told_as t = told (passages_as t.passages) (under_way_as t.going)
