-- `headed`: eight bytes, of which the last digit is written again.
use borrow.Author.Rules.{rules}
use mathlib.Core.Path.{◌≡◌, refl}
use Prim.Native.Nat.{◌+◌, ◌-◌}
use native.Mathlib.Omega.{arith}
use lib.ListN.{length, set}
use Rattle.std.proofs.lemmas.Slice.{put_mid-paste}
use Rattle.listing.proofs.Carried.{filled_head}
use Rattle.listing.proofs.stamped.headed.Goals as goal

pub returns : goal.returns
returns c =
    let a = c.args in
    let eight : length a.stamp.bytes ≡ 8 = search rules in
    let n : 8 ≡ a.at + 9 - (a.at + 1) = omega arith in
    let copied = put_mid-paste (a.at + 1) (a.at + 9 - (a.at + 1)) (set a.out.now a.at a.letter) c.copy_from_slice.new.self a.stamp.bytes 8 c.copy_from_slice.ensures.after n (omega (arith, eight)) in
    (rw copied (filled_head a.out.now a.stamp.bytes a.at a.letter a.stamp.last c.requires eight), refl)
