-- What one byte of the tty does to a port, and what a wait does in which nothing came, and a loss.
use Rattle.std.specs.Prelude.{ℕ, ◌-◌, cond, eqb, ltb, Option, None, Some}
use Rattle.numbers.specs.Bits.{number, bits}
use Rattle.frames.specs.Words.{break, silence}
use Rattle.port.specs.declared.Port.{Port}
use Rattle.port.specs.declared.Heard.{Heard}

-- how far a mark has come, 0 nothing, 1 FF, else FF 00; whether bit 7 is cleared, 0 if not; how long a silence is; and
-- how much of it is left
abbrev pub port : ℕ → ℕ → ℕ → ℕ → Port
port held clears quiet left = record { held = held; clears = clears; silence = quiet; left = left }

-- nothing has come
abbrev pub opened : ℕ → ℕ → Port
opened clears quiet = port 0 clears quiet quiet

-- a byte of the line: bits 6 to 0 where the port clears bit 7
unfoldable pub cleared : ℕ → ℕ → ℕ
cleared clears b = cond (eqb clears 0) b (number (bits 7 0 b))

-- a byte has come: the time of a silence starts again
abbrev pub heard : ℕ → Port → Option ℕ → Heard
heard held p given = record { next = port held p.clears p.silence p.silence; given = given }

-- the byte 255, with which a mark begins
abbrev pub mark : ℕ
mark = 255

-- FF FF is the byte FF; FF 00 00 a break and FF 00 x a damaged byte, both 256; FF and any other byte, which no tty sends,
-- is 256 too. Marks are looked for before bit 7 is cleared.
unfoldable pub plain : Port → ℕ → Heard
plain p b = cond (eqb b mark) (heard 1 p None) (heard 0 p (Some (cleared p.clears b)))

unfoldable pub behind_mark : Port → ℕ → Heard
behind_mark p b = cond (eqb b mark) (heard 0 p (Some (cleared p.clears mark))) (cond (eqb b 0) (heard 2 p None) (heard 0 p (Some break)))

unfoldable pub byte_of : Port → ℕ → Heard
byte_of p b = cond (eqb p.held 0) (plain p b) (cond (eqb p.held 1) (behind_mark p b) (heard 0 p (Some break)))

-- bytes are known to be lost: a 256; a mark is held as before, and the time of a silence starts again
abbrev pub lost_of : Port → Heard
lost_of p = heard p.held p (Some break)

-- a wait: once the waits since the last byte make up the length of a silence it is told, and a mark that was held is
-- dropped; nothing more is told of it before a byte has come
unfoldable pub quiet_of : Port → ℕ → Heard
quiet_of p wait =
    cond (eqb p.left 0)
    (record { next = port p.held p.clears p.silence 0; given = None })
    (cond (ltb wait p.left)
    (record { next = port p.held p.clears p.silence (p.left - wait); given = None })
    (record { next = port 0 p.clears p.silence 0; given = Some silence }))
