-- What a line of events says: a letter and its fields, "tab between fields, decimals as in a recording".
use Rattle.std.specs.Prelude.{ℕ, ◌+◌, ◌≤◌, ◌≡◌, Option, Bool, cond, ◌||◌, List, [], ◌∷◌, leb, eqb, ℤ, pos, negsuc, take, drop, Some, None}
use Rattle.std.specs.declared.option.Option.TheVariants as option
use Rattle.std.specs.Int.Signed.{lt_z}
use Rattle.numbers.specs.Signed.{least, most}
use Rattle.wire.specs.Line.{known}
use Rattle.text.specs.Decimals.{plain, number_in}
use Rattle.text.specs.Lengths.{length_to}
use Rattle.listing.specs.Lines.{tab}
use Rattle.listing.specs.Scanning.{most_lines}
use Rattle.ballbox.specs.declared.Event.TheVariants.{Motion, Buttons, Host, Latch, Send, Period}
use Rattle.driver.specs.declared.Order.{Order}
use Rattle.driver.specs.declared.Order.TheVariants as order

-- the letters
abbrev pub letter_f : ℕ
letter_f = 0x46

abbrev pub letter_m : ℕ
letter_m = 0x4D

abbrev pub letter_n : ℕ
letter_n = 0x4E

abbrev pub letter_c : ℕ
letter_c = 0x43

abbrev pub letter_p : ℕ
letter_p = 0x50

abbrev pub letter_t : ℕ
letter_t = 0x54

abbrev pub letter_s : ℕ
letter_s = 0x53

-- "`P` the period; `T` latch; `S` send"
unfoldable pub alone_in : ℕ → Order
alone_in a =
    cond (eqb a letter_p) (order.Single Period)
    (cond (eqb a letter_t) (order.Single Latch)
    (cond (eqb a letter_s) (order.Single Send) order.Bad))

-- "`F` and a letter": a letter of the table, and no more
unfoldable pub format_in : List ℕ → Order
format_in [] = order.Bad
format_in (c ∷ []) = cond (known c) (order.Format c) order.Bad
format_in (c ∷ d ∷ ds) = order.Bad

-- a number that is 0 or more and at most a bound, and what it says
abbrev pub up_to : ℕ → (ℕ → Order) → Option ℤ → Order
up_to bound says None = order.Bad
up_to bound says (Some (pos n)) = cond (leb n bound) (says n) order.Bad
up_to bound says (Some (negsuc n)) = order.Bad

-- what is answered of it: what it says of a number is what up_to says
abbrev pub UpTo : ℕ → Option ℤ → Option ℕ → Type 0
UpTo bound x option.None = (says : ℕ → Order) → up_to bound says x ≡ order.Bad
UpTo bound x (option.Some n) = (n ≤ bound) × ((says : ℕ → Order) → up_to bound says x ≡ says n)

-- "`N` buttons; `C` and a host byte": each handed in as a byte
abbrev pub buttons_in : List ℕ → Order
buttons_in bytes = up_to 255 (λ n. order.Single (Buttons n)) (number_in plain bytes)

abbrev pub host_in : List ℕ → Order
host_in bytes = up_to 255 (λ n. order.Single (Host n)) (number_in plain bytes)

-- "or `S` and a count: so many times latch and send", no more than a recording has lines
abbrev pub slots_in : List ℕ → Order
slots_in bytes = up_to most_lines (λ n. order.Slots n) (number_in plain bytes)

-- "Motion(dx, dy), 16-bit signed"
abbrev pub outside : ℤ → Bool
outside x = lt_z x least || lt_z most x

abbrev pub motion_of : Option ℤ → Option ℤ → Order
motion_of None y = order.Bad
motion_of (Some x) None = order.Bad
motion_of (Some x) (Some y) = cond (outside x || outside y) order.Bad (order.Single (Motion x y))

-- "`M` dx dy": up to the next tab, and behind it
unfoldable pub motion_in : List ℕ → Order
motion_in bytes =
    let n = length_to tab bytes in
    motion_of (number_in plain (take n bytes)) (number_in plain (drop (n + 1) bytes))

-- a letter and what stands behind its tab
unfoldable pub with_fields : ℕ → List ℕ → Order
with_fields a bytes =
    cond (eqb a letter_f) (format_in bytes)
    (cond (eqb a letter_m) (motion_in bytes)
    (cond (eqb a letter_n) (buttons_in bytes)
    (cond (eqb a letter_c) (host_in bytes)
    (cond (eqb a letter_s) (slots_in bytes) order.Bad))))

-- what a line says; a blank line is bad
unfoldable pub said_by : List ℕ → Order
said_by [] = order.Bad
said_by (a ∷ []) = alone_in a
said_by (a ∷ b ∷ bytes) = cond (eqb b tab) (with_fields a bytes) order.Bad
