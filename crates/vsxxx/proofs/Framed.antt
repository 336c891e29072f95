-- The two reports as one marked frame, and the messages of a device as whole reports of it.
use Prim.Native.Nat.{ℕ, ◌+◌, ◌*◌, ◌/◌, ◌%◌, ◌<◌, ◌≤◌}
use mathlib.Core.Path.{◌≡◌, refl, sym, ◌∙◌}
use mathlib.Core.Bool.{Bool, true, false, ◌&&◌, or-true}
use mathlib.Core.List.{List, [], ◌∷◌}
use native.Mathlib.Omega.{arith}
use lib.ListN.{length}
use lib.Dec.{eqb}
use borrow.Author.Tests.{eqb-true, lt-ltb}
use Rattle.numbers.proofs.Choices.{or_else, cases}
use Rattle.numbers.proofs.Tested.{refused}
use Rattle.frames.specs.Frame.{Marked, Whole, Framed, decoded}
use Rattle.wire.specs.Places.{fits_at, fits_first, fits_later}
use Rattle.wire.specs.Reading.{at}
use Rattle.wire.specs.Table.{bytes_of, bytes_s}
use Rattle.wire.specs.Holds.{accepted}
use Rattle.wire.specs.Messages.{report, reply}
use Rattle.wire.specs.declared.Report.{Report}
use Rattle.wire.specs.declared.Format.TheVariants.{Mm}
use Rattle.wire.proofs.FixedBits.{first_tested, later_tested}
use Rattle.wire.proofs.Codec.{bytes_fit, there}
use Rattle.wire.proofs.Codec.Fitting.{first_byte}
use Rattle.vsxxx.specs.SelfTests.{test_bytes, holds_test, is_test, is_buttons}
use Rattle.vsxxx.specs.Reports.{movement, self_test, size_from, fits_start, fits_behind, fits_puck, puck_frame, PuckMessage, of_box_lem, of_test, puck_bytes, HeldByPuck, shown_by_puck}
use Rattle.vsxxx.specs.declared.SelfTest.{SelfTest}
use Rattle.vsxxx.proofs.Bytes as bytes
use Rattle.vsxxx.proofs.Bytes.{test_tested, test_high, later_below, buttons_below, buttons_tested}

-- a first byte lies above a later one
pub move_high : (b : ℕ) → fits_first Mm b ≡ true → b / 32 ≡ 4
move_high b h = eqb-true (b / 32) 4 (first_tested Mm b (first_byte Mm b h) ∙ h)

pub start_high : (b : ℕ) → fits_start b ≡ true → (128 ≤ b) × (b < 256)
unfolding fits_start
start_high b =
    or_else (fits_first Mm b) (is_test b) (λ h. let e = move_high b h in (omega arith, omega arith)) (λ h. let e = test_high b h in (omega arith, omega arith))

pub behind_low : (first place b : ℕ) → fits_behind first place b ≡ true → b < 128
unfolding fits_behind
behind_low first place b =
    cases (λ (t : Bool). t ≡ true → b < 128) (is_test first && eqb place 3) (λ _ h. omega (arith, buttons_below b h)) (λ _ h. later_below b h)

fits_byte : (k : List ℕ) (b : ℕ) → fits_puck k b ≡ true → b < 256
fits_byte [] b h = (start_high b h).1
fits_byte (a ∷ k) b h = omega (arith, behind_low a (length (a ∷ k)) b h)

size_two : (b : ℕ) → 2 ≤ size_from b
unfolding size_from
size_two b = cases (λ (n : ℕ). 2 ≤ n) (is_test b) (λ _. omega arith) (λ _. omega arith)

pub puck_marked : Marked puck_frame
puck_marked =
    record {
      laws = record { byte = fits_byte; long = λ b h. size_two b };
      is = refl;
      first_only = λ a k b h. refused (fits_behind a (length (a ∷ k)) b) (λ f. omega (arith, (start_high b h).0, behind_low a (length (a ∷ k)) b f));
    }

-- a first byte of S begins no self-test
pub move_no_test : (b : ℕ) → fits_first Mm b ≡ true → is_test b ≡ false
move_no_test b h = refused (is_test b) (λ t. let e = test_high b t in let m = move_high b h in omega arith)

-- the bytes of a self-test are a whole report, and it is handed out of them
later_fits : (b : ℕ) → b < 128 → fits_later Mm b ≡ true
later_fits b h = sym (later_tested Mm b (omega arith)) ∙ lt-ltb b 128 h

buttons_fit : (b : ℕ) → b < 8 → is_buttons b ≡ true
buttons_fit b h = sym (buttons_tested b (omega arith)) ∙ lt-ltb b 8 h

pub test_first : (t : SelfTest) → is_test (at 0 (test_bytes t)) ≡ true
test_first t =
    let h : (160 + t.revision % 16) / 16 ≡ 10 = omega arith in
    rw (bytes.bytes_are t) (sym (test_tested (160 + t.revision % 16) (omega arith)) ∙ rw h)

pub test_whole : (t : SelfTest) → Whole puck_frame (test_bytes t)
unfolding fits_start fits_behind size_from
test_whole t =
    let f : is_test (160 + t.revision % 16) ≡ true = rw (bytes.bytes_are t) at (test_first t) in
    rw (bytes.bytes_are t, f)
    ((or-true (fits_first Mm (160 + t.revision % 16)), (later_fits (t.maker % 8 * 16 + t.device % 16) (omega arith), (later_fits (t.error % 128) (omega arith), (buttons_fit (t.buttons % 8) (omega arith), tt)))), refl)

pub test_shown : (t : SelfTest) → holds_test t ≡ true → decoded puck_frame test_bytes t ≡ self_test t ∷ []
test_shown t h = rw (test_first t, bytes.there t h)

-- and so are those of a report of S
pub move_whole : (r : Report) → accepted Mm r ≡ true → Whole puck_frame (bytes_of Mm r)
unfolding bytes_s fits_at fits_start fits_behind size_from
move_whole r a =
    let fit = bytes_fit Mm r a in
    let f = fit 0 (omega arith) in
    let n = move_no_test (at 0 (bytes_of Mm r)) f in
    rw n ((rw f, (fit 1 (omega arith), (fit 2 (omega arith), tt))), refl)

pub move_shown : (r : Report) → accepted Mm r ≡ true → decoded puck_frame (bytes_of Mm) r ≡ movement r ∷ []
unfolding fits_at
move_shown r a = rw (move_no_test (at 0 (bytes_of Mm r)) (bytes_fit Mm r a 0 (omega arith)), there Mm r a)

-- the messages of a device
pub held_framed : (m : PuckMessage) → HeldByPuck m → Framed puck_frame puck_bytes m
held_framed (of_box_lem (report l)) h = rw h.0 (move_whole l.report h.1)
held_framed (of_box_lem (reply bytes)) h = absurd h
held_framed (of_test t) h = test_whole t

pub held_shown : (m : PuckMessage) → HeldByPuck m → decoded puck_frame puck_bytes m ≡ shown_by_puck m
held_shown (of_box_lem (report l)) h = rw h.0 (move_shown l.report h.1)
held_shown (of_box_lem (reply bytes)) h = absurd h
held_shown (of_test t) h = test_shown t h
