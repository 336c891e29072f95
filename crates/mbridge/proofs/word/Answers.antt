-- All of the V reports have room, and their bytes are all that is written.
use borrow.Author.Rules.{rules}
use native.Mathlib.Omega.{arith}
use Prim.Native.Nat.{ℕ, ◌*◌, ◌≤◌}
use mathlib.Core.Path.{◌≡◌, sym, ◌∙◌, ap}
use mathlib.Core.List.{List}
use lib.ListN.{length, take}
use lib.Seq.{length-take-le}
use Rattle.text.specs.Growth.{slice, filled_by}
use Rattle.reader.specs.Rules.{word_of}
use Rattle.bridge.specs.Splitting.{bytes_all}
use Rattle.bridge.specs.Line.{given, converted_in}
use Rattle.mbridge.specs.Lines.{byte_lines}
use Rattle.mbridge.specs.Recording.{bridge_behind, lines_for}
use Rattle.mbridge.proofs.Words.{few_sent, word_all}
use Rattle.mbridge.proofs.word.Goals as goal

pub overflow_mul-count : goal.overflow_mul-count
overflow_mul-count c =
    let k = c.convert-converted in
    let all = word_all c.args.bridge c.args.w c.requires _ (converted_in k.result) k.new.out (omega arith) k.ensures in
    let few : k.result.sent ≤ 33 = omega (arith, all.1, few_sent c.args.bridge c.args.w c.requires) in
    omega (arith, few)

pub slice_bounds-bytes-end : goal.slice_bounds-bytes-end
slice_bounds-bytes-end c =
    let k = c.convert-converted in
    let all = word_all c.args.bridge c.args.w c.requires _ (converted_in k.result) k.new.out (omega arith) k.ensures in
    let few : k.result.sent ≤ 33 = omega (arith, all.1, few_sent c.args.bridge c.args.w c.requires) in
    let same : length k.new.out ≡ 99 = search rules in
    omega (arith, few, same)

pub slice_bounds-lines-end : goal.slice_bounds-lines-end
slice_bounds-lines-end c =
    let k = c.convert-converted in
    let all = word_all c.args.bridge c.args.w c.requires _ (converted_in k.result) k.new.out (omega arith) k.ensures in
    let few : k.result.sent ≤ 33 = omega (arith, all.1, few_sent c.args.bridge c.args.w c.requires) in
    let same : length k.new.out ≡ 99 = search rules in
    sym (length-take-le (3 * k.result.sent) k.new.out (omega (arith, few, same)))

pub returns : goal.returns
unfolding bridge_behind lines_for
returns c =
    let k = c.convert-converted in
    let all = word_all c.args.bridge c.args.w c.requires _ (converted_in k.result) k.new.out (omega arith) k.ensures in
    let text : take (3 * k.result.sent) k.new.out ≡ bytes_all (given c.args.bridge (word_of c.args.bridge.reader c.args.w)).sent = rw all.1 all.2 in
    record { next = all.0; lines = c.lines-used.ensures ∙ ap (λ (l : List ℕ). filled_by (slice c.args.out.now c.args.at) (byte_lines l)) text }
