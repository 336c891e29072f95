-- `byte_at`: one digit, two or three.
use native.Mathlib.Omega.{arith}
use Rattle.listing.proofs.Bytes.{a_digit, tells_one, tells_two, tells_three}
use Rattle.listing.proofs.lines.byte_at.Goals as goal

pub returns-then-d-eq10 : goal.returns-then-d-eq10
returns-then-d-eq10 c =
    let one = a_digit (c.if-not-is_ascii_digit.ensures).cases in
    rw c.from-one.ensures (tells_one c.args.c one c.args.d c.args.e c.args.f c.if-d-eq10.true, λ z. omega arith)

pub returns-then-e-eq10 : goal.returns-then-e-eq10
returns-then-e-eq10 c =
    let one = a_digit (c.if-not-is_ascii_digit.ensures).cases in
    let two = a_digit (c.if-not-is_ascii_digit-2.ensures).cases in
    rw (c.from-one.ensures, c.from.ensures) (tells_two c.args.c one c.if-c-eq48.false c.args.d two c.args.e c.args.f c.if-e-eq10.true, λ z. omega arith)

pub returns : goal.returns
returns c =
    let one = a_digit (c.if-not-is_ascii_digit.ensures).cases in
    let two = a_digit (c.if-not-is_ascii_digit-2.ensures).cases in
    let three = a_digit (c.if-not-is_ascii_digit-3.ensures).cases in
    let few = c.if-three-gt255.false in
    rw (c.from-one.ensures, c.from.ensures, c.from-2.ensures) (tells_three c.args.c one c.if-c-eq48.false c.args.d two c.args.e c.args.f three c.if-f-ne10.false (rw (c.from-one.ensures, c.from.ensures, c.from-2.ensures) at few), λ z. omega arith)
