-- `second_latched`: the encoder accepts the second pair.
use borrow.Author.Rules.{rules}
use lib.IntN.{pos}
use mathlib.Core.Path.{◌≡◌, refl, ap, ◌∙◌}
use mir.Syntax.{w16}
use mir.Val.{to_z, of_z}
use Rattle.ballbox.proofs.Accepting.{second_accepted}
use Rattle.ballbox.specs.Latching.{taken, second_only, with_second, second_latched}
use Rattle.ballbox.specs.declared.BoundedPair.{BoundedPair}
use Rattle.wire.proofs.Codec.Accepted.{same_report}
use Rattle.wire.specs.Holds.{accepted_by}
use Rattle.wire.specs.Line.{letter_of, named_by}
use Rattle.wire.specs.Table.{five, bytes_u, bytes_by}
use Rattle.wire.specs.declared.Format.TheVariants.{FiveByte}
use Rattle.wire.specs.declared.Report.{Report}
use Rattle.ballbox.proofs.BallBox.second_latched.Goals as goal

pub encoded-second-requires : goal.encoded-second-requires
encoded-second-requires c =
    let reported : ◌≡◌ {A = Report}
    (record { buttons = 0; x1 = pos 0; y1 = pos 0; x2 = to_z w16 (of_z w16 c.taken-taken.result.value.x); y2 = to_z w16 (of_z w16 c.taken-taken.result.value.y) })
    (second_only (taken c.args.self.settings.format c.args.self.track)) = let t = c.taken-taken in
    let x : to_z w16 (of_z w16 t.result.value.x) ≡ t.result.value.x = search rules in
    let y : to_z w16 (of_z w16 t.result.value.y) ≡ t.result.value.y = search rules in
    same_report refl refl refl (x ∙ ap (λ (p : BoundedPair). p.value.x) t.ensures) (y ∙ ap (λ (p : BoundedPair). p.value.y) t.ensures) in
    ap (accepted_by (letter_of FiveByte)) reported ∙ rw c.requires (second_accepted c.args.self.track)

pub returns : goal.returns
unfolding second_latched with_second bytes_by named_by bytes_u
returns c =
    let reported : ◌≡◌ {A = Report}
    (record { buttons = 0; x1 = pos 0; y1 = pos 0; x2 = to_z w16 (of_z w16 c.taken-taken.result.value.x); y2 = to_z w16 (of_z w16 c.taken-taken.result.value.y) })
    (second_only (taken c.args.self.settings.format c.args.self.track)) = let t = c.taken-taken in
    let x : to_z w16 (of_z w16 t.result.value.x) ≡ t.result.value.x = search rules in
    let y : to_z w16 (of_z w16 t.result.value.y) ≡ t.result.value.y = search rules in
    same_report refl refl refl (x ∙ ap (λ (p : BoundedPair). p.value.x) t.ensures) (y ∙ ap (λ (p : BoundedPair). p.value.y) t.ensures) in
    let bytes = c.encoded-second.ensures ∙ ap (λ (r : Report). five (bytes_by (letter_of FiveByte) r)) reported in
    let over = ap (λ (p : BoundedPair). p.excess) c.taken-taken.ensures in
    simp (c.cleared-self.ensures, c.over_limit-self.ensures, over, bytes)
