-- The version of the library, as one number.
use Rattle.std.specs.Prelude.{ℕ, ◌+◌, ◌*◌, ◌≡◌}

-- its three parts, as the file VERSION has them
abbrev pub major : ℕ
major = 1

abbrev pub minor : ℕ
minor = 0

abbrev pub patch : ℕ
patch = 0

-- two decimals for each part behind the first: 1.2.3 is 10203
abbrev pub number_of : ℕ → ℕ → ℕ → ℕ
number_of major minor patch = 10000 * major + 100 * minor + patch

-- THE VERSION
abbrev pub VersionPromise : ℕ → Type 0
VersionPromise answer = answer ≡ number_of major minor patch
