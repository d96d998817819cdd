-- The value of a decimal is the f64 nearest to it.
use mathlib.Core.Path.{sym}
use Prim.Native.Nat.{◌-◌, ◌*◌, ◌^◌, ◌≤◌, ◌<◌}
use native.Mathlib.Nat.{one-le-pow, zero-lt-suc, pow-le-pow_right, mul-le-mul, mul-le-mul_left, lt_of_le_of_lt, lt_of_lt_of_le, le_of_lt, mul-one, le_of_eq, le_trans}
use native.Mathlib.Omega.{arith}
use lib.Dec.{lit<}
use Rattle.text.specs.Laws.{DecimalNearest}
use Rattle.text.proofs.RoundNearest.{round_nearest}

pub decimal_nearest : DecimalNearest
decimal_nearest negative d up down few high low = round_nearest negative (d * 10 ^ (up - down)) (10 ^ (down - up)) positive under
  where
    positive : 0 < 10 ^ (down - up)
    positive = one-le-pow (down - up) 10 (zero-lt-suc 9)

    most : d * 10 ^ (up - down) ≤ 10 ^ 15 * 10 ^ 22
    most = mul-le-mul (le_of_lt few) (pow-le-pow_right {n = 10} (zero-lt-suc 9) {i = up - down} {j = 22} (omega arith))

    under : d * 10 ^ (up - down) < 2 ^ 1023 * 10 ^ (down - up)
    under = lt_of_le_of_lt most (lt_of_lt_of_le (lit< tt) (le_trans (le_of_eq (sym (mul-one (2 ^ 1023)))) (mul-le-mul_left (2 ^ 1023) positive)))
