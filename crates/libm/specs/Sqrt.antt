-- IEEE 754's square root: the f64 nearest to the exact root, stated by squares of whole numbers.
use Prim.Native.Nat.{ℕ, zero, suc, ◌+◌, ◌-◌, ◌*◌, ◌/◌, ◌%◌, ◌^◌, compare}
use Rattle.std.specs.Prelude.{false, cond, leb, eqb, Float}
use Rattle.std.specs.Float.{nan, inf, fin, Format, binary64}
use Rattle.std.specs.Float.Ieee.{prec, low, up, down, size, nearest, units}

-- The largest whole number whose square is at most n, for an n below 4 ^ d. Each two binary digits of n give one of the root: twice the root so
-- far, or one more where its square still fits.
unfoldable pub isqrt : ℕ → ℕ → ℕ
isqrt zero n = 0
isqrt (suc d) n =
    let r = 2 * isqrt d (n / 4) in
    cond (leb ((r + 1) * (r + 1)) n) (r + 1) r

-- how many binary digits of the root of n are beyond the format's precision
abbrev pub beyond : Format → ℕ → ℕ
beyond f n = (size n + 1) / 2 - prec f

-- the digits of the root of n that the precision holds
unfoldable pub leading : Format → ℕ → ℕ
unfolding isqrt size
leading f n = isqrt (prec f) (n / 4 ^ beyond f n)

-- The root of m units of 2 ^ -low. In such units it is the root of n = m * 2 ^ low, which lies from q * 2 ^ k up to (q + 1) * 2 ^ k; the
-- square of the half way point says which of the two is nearer.
unfoldable pub root_units : Format → ℕ → Float
unfolding leading size units
root_units f m =
    let n = m * 2 ^ low f in
    let k = beyond f n in
    let q = leading f n in
    units f false (nearest q (compare (4 * n) ((2 * q + 1) * (2 * q + 1) * 4 ^ k))) k

-- A zero gives itself, plus infinity itself, NaN or anything below zero NaN. A value m * 2 ^ e is so many units of 2 ^ -low.
unfoldable pub sqrt_at : Format → Float → Float
unfolding root_units
sqrt_at f nan = nan
sqrt_at f (inf negative) = cond negative nan (inf false)
sqrt_at f (fin negative m e) = cond (eqb m 0) (fin negative m e) (cond negative nan (root_units f (m * up e * 2 ^ low f / down e)))

abbrev pub sqrt : Float → Float
sqrt x = sqrt_at binary64 x

-- ---- the bits of an f64, for the contracts of the private steps of the code

-- the units that an exponent field and the digits after it stand for
unfoldable pub units_at : ℕ → ℕ → ℕ
units_at zero digits = digits
units_at (suc field) digits = (2 ^ 52 + digits) * 2 ^ field

-- how many units of 2 ^ -1074 the bits of a positive finite f64 stand for: a subnormal's digits, or all 53 digits at their place
abbrev pub units_of : ℕ → ℕ
units_of bits = units_at (bits / 2 ^ 52) (bits % 2 ^ 52)
