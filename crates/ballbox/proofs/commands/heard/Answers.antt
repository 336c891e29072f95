-- `heard`: by the letters, and by the ranges between them.
use Prim.Native.Nat.{◌≤◌, ◌<◌}
use native.Mathlib.Omega.{arith}
use Rattle.wire.specs.Line.{known, named_by}
use Rattle.numbers.proofs.Tested.{ranged}
use Rattle.ballbox.proofs.Letters.{ignored, no_format_lem, no_stream, stream}
use Rattle.ballbox.specs.Commands.{command_of}
use Rattle.ballbox.proofs.commands.heard.Goals as goal

pub returns-in-68 : goal.returns-in-68
unfolding command_of known named_by
returns-in-68 c = rw c.in-68.is

pub returns-in-80 : goal.returns-in-80
unfolding command_of known named_by
returns-in-80 c = rw c.in-80.is

pub returns-in-32 : goal.returns-in-32
unfolding command_of known named_by
returns-in-32 c = rw c.in-32.is

pub returns-in-102 : goal.returns-in-102
unfolding command_of known named_by
returns-in-102 c = rw c.in-102.is

pub returns-in-116 : goal.returns-in-116
unfolding command_of known named_by
returns-in-116 c = rw c.in-116.is

pub returns-in-5 : goal.returns-in-5
unfolding command_of known named_by
returns-in-5 c = rw c.in-5.is

pub returns-in-100 : goal.returns-in-100
unfolding command_of known named_by
returns-in-100 c = rw c.in-100.is

pub returns-in-74 : goal.returns-in-74
unfolding command_of known named_by
returns-in-74 c =
    let r = c.in-74.in_default-own.rest in
    simp (no_format_lem 74 9 tt _ c.in-74.if-byte-lt74-own.false c.in-74.if-byte-lt83-own.true, stream _ c.in-74.if-byte-lt74-own.false c.in-74.if-byte-lt83-own.true r.0.0.0.0.0.1)

pub returns-in-65 : goal.returns-in-65
unfolding command_of known named_by
returns-in-65 c = simp (ranged known 65 2 tt _ c.in-65.if-byte-lt65-own.false c.in-65.if-byte-lt67-own.true)

pub returns-in-65-2 : goal.returns-in-65-2
unfolding command_of known named_by
returns-in-65-2 c = simp (ranged known 83 5 tt _ c.in-65.if-byte-lt83-own.false c.in-65.if-byte-lt88-own.true)

pub returns-in_default : goal.returns-in_default
unfolding known named_by
returns-in_default c =
    let r = c.in_default.in_default-own.rest in
    let l : 0 ≤ c.args.byte = omega arith in
    let h : c.args.byte < 65 = c.in_default.if-byte-lt65-own.true in
    ignored _ r.0.0.0.0.0.0.1 r.0.0.0.0.0.1 r.0.0.0.0.1 r.0.0.0.1 r.0.0.1 r.0.1 r.1 (no_format_lem 0 65 tt _ l h)
    (no_stream 0 65 tt _ l h)

pub returns-in_default-2 : goal.returns-in_default-2
unfolding known named_by
returns-in_default-2 c =
    let r = c.in_default.in_default-own.rest in
    let l : 67 ≤ c.args.byte = c.in_default.if-byte-lt67-own.false in
    let h : c.args.byte < 74 = c.in_default.if-byte-lt74-own.true in
    ignored _ r.0.0.0.0.0.0.1 r.0.0.0.0.0.1 r.0.0.0.0.1 r.0.0.0.1 r.0.0.1 r.0.1 r.1 (no_format_lem 67 7 tt _ l h)
    (no_stream 67 7 tt _ l h)

pub returns-in_default-3 : goal.returns-in_default-3
unfolding known named_by
returns-in_default-3 c =
    let r = c.in_default.in_default-own.rest in
    let l : 88 ≤ c.args.byte = c.in_default.if-byte-lt88-own.false in
    let h : c.args.byte < 256 = omega (arith, c.ranges.byte.fits) in
    ignored _ r.0.0.0.0.0.0.1 r.0.0.0.0.0.1 r.0.0.0.0.1 r.0.0.0.1 r.0.0.1 r.0.1 r.1 (no_format_lem 88 168 tt _ l h)
    (no_stream 88 168 tt _ l h)
