-- What C holds is what the library holds: packed and unpacked again it is the same, and what stands for a state is one that was packed.
use Rattle.std.proofs.Common.{Option, None, Some}
use Prim.Native.Nat.{ℕ, zero, suc}
use mathlib.Core.Path.{◌≡◌, refl}
use mathlib.Core.Bool.{true, ◌&&◌}
use native.Mathlib.Omega.{arith}
use lib.Dec.{leb}
use borrow.Author.Tests.{leb-true}
use Rattle.numbers.proofs.Choices.{both}
use Rattle.numbers.proofs.Tested.{left, right}
use Rattle.reader.specs.declared.Reader.{Reader}
use Rattle.listing.specs.declared.Lister.{Lister}
use Rattle.bridge.specs.declared.Bridge.{Bridge}
use Rattle.replies.specs.declared.Kind.{Kind}
use Rattle.replies.specs.declared.Kind.TheVariants as kind
use Rattle.replies.specs.declared.ToldReader.{ToldReader}
use Rattle.ballbox.specs.Marks.{is_mark}
use Rattle.istrolf.specs.Readers as readers
use Rattle.istrolf.specs.Listers as listers
use Rattle.istrolf.specs.Bridges as bridges
use Rattle.istrolf.specs.Told as told
use Rattle.istrolf.specs.declared.HeldReader.{HeldReader}
use Rattle.istrolf.specs.declared.HeldLister.{HeldLister}
use Rattle.istrolf.specs.declared.HeldBridge.{HeldBridge}
use Rattle.istrolf.specs.declared.HeldTold.{HeldTold}
use Rattle.ballbox.proofs.Marks.{mark_back, mark_stands, mark_of}

-- a reader
pub reader_there : (r : Reader) → readers.unpacked (readers.packed r) ≡ r
reader_there r = λ i. record { format = r.format; kept = r.kept; count = r.count; awaiting = mark_back r.awaiting i }

pub reader_back : (h : HeldReader) → readers.stands h ≡ true → readers.packed (readers.unpacked h) ≡ h
reader_back h s = λ i. record { format = h.format; kept = h.kept; count = h.count; awaiting = mark_of h.awaiting s i }

pub reader_stands : (r : Reader) → readers.stands (readers.packed r) ≡ true
reader_stands r = mark_stands r.awaiting

-- a lister
pub lister_there : (m : Lister) → listers.unpacked (listers.packed m) ≡ m
lister_there m = λ i.
    record {
      scanner = record { line = m.scanner.line; ended = mark_back m.scanner.ended i; held = m.scanner.held; count = m.scanner.count };
      reader = reader_there m.reader i;
    }

pub lister_back : (h : HeldLister) → listers.stands h ≡ true → listers.packed (listers.unpacked h) ≡ h
lister_back h s =
    let ended = mark_of h.ended (left (is_mark h.ended) (readers.stands h.reader) s) in
    let reader = reader_back h.reader (right (is_mark h.ended) (readers.stands h.reader) s) in
    λ i. record { line = h.line; ended = ended i; held = h.held; count = h.count; reader = reader i }

pub lister_stands : (m : Lister) → listers.stands (listers.packed m) ≡ true
lister_stands m = rw (mark_stands m.scanner.ended, mark_stands m.reader.awaiting)

-- a bridge
pub bridge_there : (b : Bridge) → bridges.unpacked (bridges.packed b) ≡ b
bridge_there b = λ i.
    record {
      reader = reader_there b.reader i;
      past = record {
        base = record { set = mark_back b.past.base.set i; x = b.past.base.x; y = b.past.base.y };
        middle = mark_back b.past.middle i;
        presses = b.past.presses;
      };
    }

pub bridge_back : (h : HeldBridge) → bridges.stands h ≡ true → bridges.packed (bridges.unpacked h) ≡ h
bridge_back h s =
    let both = left (readers.stands h.reader && is_mark h.based) (is_mark h.middle) s in
    let reader = reader_back h.reader (left (readers.stands h.reader) (is_mark h.based) both) in
    let based = mark_of h.based (right (readers.stands h.reader) (is_mark h.based) both) in
    let middle = mark_of h.middle (right (readers.stands h.reader && is_mark h.based) (is_mark h.middle) s) in
    λ i. record { reader = reader i; based = based i; middle = middle i; presses = h.presses; x = h.x; y = h.y }

pub bridge_stands : (b : Bridge) → bridges.stands (bridges.packed b) ≡ true
bridge_stands b = rw (mark_stands b.reader.awaiting, mark_stands b.past.base.set, mark_stands b.past.middle)

-- a reader that is told of replies
kind_back : (k : Option Kind) → told.kind_of (told.kind_number k) ≡ k
unfolding told.kind_of
kind_back None = refl
kind_back (Some kind.Ack) = refl
kind_back (Some kind.Code) = refl
kind_back (Some kind.Letters) = refl
kind_back (Some kind.Buttons) = refl

kind_stands : (k : Option Kind) → leb (told.kind_number k) 4 ≡ true
kind_stands None = refl
kind_stands (Some kind.Ack) = refl
kind_stands (Some kind.Code) = refl
kind_stands (Some kind.Letters) = refl
kind_stands (Some kind.Buttons) = refl

number_back : (n : ℕ) → leb n 4 ≡ true → told.kind_number (told.kind_of n) ≡ n
unfolding told.kind_of
number_back zero h = refl
number_back (suc zero) h = refl
number_back (suc (suc zero)) h = refl
number_back (suc (suc (suc zero))) h = refl
number_back (suc (suc (suc (suc zero)))) h = refl
number_back (suc (suc (suc (suc (suc n))))) h = absurd (omega (arith, leb-true (suc (suc (suc (suc (suc n))))) 4 h))

pub told_there : (s : ToldReader) → told.unpacked (told.packed s) ≡ s
told_there s = λ i. record { reader = reader_there s.reader i; awaited = record { kind = kind_back s.awaited.kind i; came = s.awaited.came } }

pub told_back : (h : HeldTold) → told.stands h ≡ true → told.packed (told.unpacked h) ≡ h
told_back h s =
    let reader = reader_back h.reader (left (readers.stands h.reader) (leb h.awaited 4) s) in
    let number = number_back h.awaited (right (readers.stands h.reader) (leb h.awaited 4) s) in
    λ i. record { reader = reader i; awaited = number i; came = h.came }

pub told_stands : (s : ToldReader) → told.stands (told.packed s) ≡ true
told_stands s = both (readers.stands (readers.packed s.reader)) (leb (told.kind_number s.awaited.kind) 4) (reader_stands s.reader) (kind_stands s.awaited.kind)
