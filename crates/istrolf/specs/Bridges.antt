-- A bridge as C holds it: the same fields, and a number for each mark; and what its functions give back.
use Rattle.std.specs.Prelude.{ℕ, Bool, ◌&&◌, List}
use Rattle.wire.specs.Numbers.{bad_state}
use Rattle.bridge.specs.Line.{Converted, Long, told as told_by}
use Rattle.bridge.specs.declared.Bridge.{Bridge}
use Rattle.bridge.specs.Promises.{NewBridge}
use Rattle.ballbox.specs.Marks.{mark, marked, is_mark}
use Rattle.istrolf.specs.Readers as readers
use Rattle.istrolf.specs.declared.HeldBridge.{HeldBridge}
use Rattle.istrolf.specs.declared.FreshBridge.{FreshBridge}
use Rattle.istrolf.specs.declared.ConvertedWords.{ConvertedWords}

abbrev pub packed : Bridge → HeldBridge
packed b =
    record {
      reader = readers.packed b.reader;
      based = mark b.past.base.set;
      middle = mark b.past.middle;
      presses = b.past.presses;
      x = b.past.base.x;
      y = b.past.base.y;
    }

abbrev pub unpacked : HeldBridge → Bridge
unpacked h =
    record {
      reader = readers.unpacked h.reader;
      past = record { base = record { set = marked h.based; x = h.x; y = h.y }; middle = marked h.middle; presses = h.presses };
    }

-- what stands for a bridge
abbrev pub stands : HeldBridge → Bool
stands h = readers.stands h.reader && is_mark h.based && is_mark h.middle

abbrev pub packed_fresh : NewBridge → FreshBridge
packed_fresh n = record { refusal = n.refusal; bridge = packed n.bridge }

abbrev pub packed_converted : Converted → ConvertedWords
packed_converted a =
    record {
      refusal = a.refusal;
      next = packed a.next;
      taken = a.taken;
      reports = a.reports;
      sent = a.sent;
      dropped = a.dropped;
    }

-- a refusal: the old state, and nothing taken
abbrev pub refused_converted : HeldBridge → ConvertedWords
refused_converted h = record { refusal = bad_state; next = h; taken = 0; reports = 0; sent = 0; dropped = 0 }

-- what a long call gives back, and every byte of the lent slice after it
pub record Whole : Type 0 where
  pub told : ConvertedWords
  pub out : List ℕ

abbrev pub whole : ConvertedWords → List ℕ → Whole
whole told out = record { told = told; out = out }

abbrev pub packed_long : Long → Whole
packed_long l = whole (packed_converted (told_by l)) l.out
