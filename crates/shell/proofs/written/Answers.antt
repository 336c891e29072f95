-- What one write took stands behind what stood there.
use Rattle.std.proofs.Common.{◌+◌, ◌∙◌, ap, take, drop, sym, subst, take-add, drop-drop}
use Rattle.std.proofs.lemmas.List.{take_rest}
use Rattle.std.specs.Io.KnownBytes.{Appends}
use Rattle.std.proofs.KnownBytes.{Appends-trans}
use Rattle.shell.proofs.written.Goals as goal

pub loop-rest-preserved : goal.loop-rest-preserved
loop-rest-preserved g c =
    let all = c.args.bytes.now in
    let k = c.loop-rest.invariant.0 in
    let n = c.in_ok-n.n in
    let left = c.loop-rest.invariant.1 in
    let old = g.W.Write.contents c.args.stream.now in
    let mid = g.W.Write.contents c.loop-rest.stream in
    let new = g.W.Write.contents c.write.new.self in
    let taken : Appends mid new (take n (drop k all)) = subst (λ rest. Appends mid new (take n rest)) left c.in_ok-n.ensures.bytes in
    let both = Appends-trans old mid new (take k all) (take n (drop k all)) c.loop-rest.invariant.2 taken in
    (k + n, take_rest _ n ∙ ap (drop n) left ∙ drop-drop n k all, subst (Appends old new) (sym (take-add k n all)) both)
