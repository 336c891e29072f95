-- Wrong answers, two, that the promise of the version does not permit. What the other functions promise is refused below them.
use native.Mathlib.Omega.{arith}
use Rattle.istrolf.specs.Version.{VersionPromise}

-- the three parts as three digits; and the version that would come next
pub version_three_digits : VersionPromise 100 → ⊥
version_three_digits e = omega (arith, e)

pub version_next : VersionPromise 10001 → ⊥
version_next e = omega (arith, e)
