-- `latched`: the encoder accepts what is limited, with the buttons to show.
use borrow.Author.Rules.{rules}
use lib.IntN.{pos}
use mathlib.Core.Path.{◌≡◌, refl, ap, ◌∙◌}
use mir.Syntax.{w16}
use mir.Val.{to_z, of_z}
use native.Mathlib.Omega.{arith}
use Rattle.ballbox.proofs.Accepting.{latched_accepted, bytes_by_length}
use Rattle.ballbox.specs.Box.{going_from}
use Rattle.ballbox.specs.Latching.{latched, latched_report}
use Rattle.ballbox.specs.declared.BoundedPair.{BoundedPair}
use Rattle.wire.proofs.Codec.Accepted.{same_report}
use Rattle.wire.proofs.Letters.{at_most_five}
use Rattle.wire.specs.Holds.{accepted_by}
use Rattle.wire.specs.Table.{five, bytes_by}
use Rattle.wire.specs.declared.Report.{Report}
use Rattle.ballbox.proofs.BallBox.latched.Goals as goal

pub overflow_cast-going : goal.overflow_cast-going
overflow_cast-going c = record { fits = rw c.size.ensures (omega (arith, at_most_five c.args.self.settings.format)) }

pub encoded-requires : goal.encoded-requires
unfolding latched_report
encoded-requires c =
    let reported : ◌≡◌ {A = Report}
    (record { buttons = c.to_show.result; x1 = to_z w16 (of_z w16 c.taken-taken.result.value.x); y1 = to_z w16 (of_z w16 c.taken-taken.result.value.y); x2 = pos 0; y2 = pos 0 })
    (latched_report c.args.self) = let t = c.taken-taken in
    let x : to_z w16 (of_z w16 t.result.value.x) ≡ t.result.value.x = search rules in
    let y : to_z w16 (of_z w16 t.result.value.y) ≡ t.result.value.y = search rules in
    same_report c.to_show.ensures (x ∙ ap (λ (p : BoundedPair). p.value.x) t.ensures) (y ∙ ap (λ (p : BoundedPair). p.value.y) t.ensures) refl refl in
    ap (accepted_by c.args.self.settings.format) reported ∙ latched_accepted c.args.self c.requires

pub returns : goal.returns
unfolding latched going_from latched_report
returns c =
    let reported : ◌≡◌ {A = Report}
    (record { buttons = c.to_show.result; x1 = to_z w16 (of_z w16 c.taken-taken.result.value.x); y1 = to_z w16 (of_z w16 c.taken-taken.result.value.y); x2 = pos 0; y2 = pos 0 })
    (latched_report c.args.self) = let t = c.taken-taken in
    let x : to_z w16 (of_z w16 t.result.value.x) ≡ t.result.value.x = search rules in
    let y : to_z w16 (of_z w16 t.result.value.y) ≡ t.result.value.y = search rules in
    same_report c.to_show.ensures (x ∙ ap (λ (p : BoundedPair). p.value.x) t.ensures) (y ∙ ap (λ (p : BoundedPair). p.value.y) t.ensures) refl refl in
    let f = c.args.self.settings.format in
    let bytes = c.encoded.ensures ∙ ap (λ (r : Report). five (bytes_by f r)) reported in
    let over = ap (λ (p : BoundedPair). p.excess) c.taken-taken.ensures in
    simp (c.cleared-self.ensures, c.over_limit-self.ensures, over, c.showing_first-self.ensures, bytes, c.size.ensures, bytes_by_length)
