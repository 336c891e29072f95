-- A lister as C holds it: the same fields, and a number for each mark; and what a call gives back.
use Rattle.std.specs.Prelude.{ℕ, Bool, ◌&&◌, List}
use Rattle.wire.specs.Numbers.{bad_state}
use Rattle.listing.specs.Promises as listing
use Rattle.listing.specs.declared.Lister.{Lister}
use Rattle.listing.specs.Promises.{Listed}
use Rattle.ballbox.specs.Marks.{mark, marked, is_mark}
use Rattle.istrolf.specs.Readers as readers
use Rattle.istrolf.specs.declared.HeldLister.{HeldLister}
use Rattle.istrolf.specs.declared.ListedBytes.{ListedBytes}

abbrev pub packed : Lister → HeldLister
packed m =
    record {
      line = m.scanner.line;
      ended = mark m.scanner.ended;
      held = m.scanner.held;
      count = m.scanner.count;
      reader = readers.packed m.reader;
    }

abbrev pub unpacked : HeldLister → Lister
unpacked h =
    record {
      scanner = record { line = h.line; ended = marked h.ended; held = h.held; count = h.count };
      reader = readers.unpacked h.reader;
    }

-- what stands for a lister
abbrev pub stands : HeldLister → Bool
stands h = is_mark h.ended && readers.stands h.reader

abbrev pub packed_listed : Listed → ListedBytes
packed_listed a =
    record {
      refusal = a.refusal;
      ended = mark a.ended;
      taken = a.taken;
      written = a.written;
      next = packed a.next;
    }

-- a refusal: the old state, and nothing taken
abbrev pub refused_listed : HeldLister → ListedBytes
refused_listed h = record { refusal = bad_state; ended = h.ended; taken = 0; written = 0; next = h }

-- what a call gives back, and every byte of the lent slice after it
pub record Whole : Type 0 where
  pub listed : ListedBytes
  pub out : List ℕ

abbrev pub whole : ListedBytes → List ℕ → Whole
whole listed out = record { listed = listed; out = out }

abbrev pub packed_whole : listing.Whole → Whole
packed_whole w = whole (packed_listed w.listed) w.out
