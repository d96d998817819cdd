-- A query inside its interval has a share, and that is from 0 to 1, since rounding is monotone. Assumes nothing.
use mathlib.Core.Path.{◌≡◌, refl, sym, subst}
use mathlib.Core.Bool.{false}
use Prim.Native.Nat.{ℕ, ◌-◌, ◌*◌, ◌^◌, ◌≤◌, ◌<◌}
use native.Mathlib.Nat.{zero-lt-suc, le_of_lt, lt_of_le_of_lt, mul-pos}
use native.Mathlib.Omega.{arith}
use lib.Dec.{T}
use lib.Ieee.{Float, binary64, round, le, of_bits}
use lib.Ieee.Bits.{is_true}
use lib.Ieee.Order.{round_mono}
use lib.Ieee.Positive.{num, den, den_pos}
use borrow.Author.Tests.{le-ltb, ne_eqb}
use Rattle.time.specs.Float.{◌⊘◌, zero64, one64}
use Rattle.time.specs.Timestamp.{as_secs_f64, share}
use Rattle.time.specs.Laws.{ShareWithin}
use Rattle.time.proofs.Seconds.{Plain, le→cross, div_plain, seconds_plain, seconds_pos, seconds_mono}

zero_is : round binary64 false 0 1 ≡ zero64
unfolding round of_bits
zero_is = refl

one_is : round binary64 false 1 1 ≡ one64
unfolding round of_bits
one_is = refl

abbrev ratio : ℕ → ℕ → Float
ratio elapsed span = as_secs_f64 elapsed ⊘ as_secs_f64 span

ratio_within : (elapsed span : ℕ) → 0 < span → elapsed ≤ span → span < 2 ^ 64 → T (le zero64 (ratio elapsed span)) × T (le (ratio elapsed span) one64)
ratio_within elapsed span p h k =
    let x = as_secs_f64 elapsed in
    let y = as_secs_f64 span in
    let y_pos : 0 < num y = seconds_pos span p k in
    let px : Plain x = seconds_plain elapsed (lt_of_le_of_lt h k) in
    let py : Plain y = seconds_plain span k in
    let e : ratio elapsed span ≡ round binary64 false (num x * den y) (num y * den x) = div_plain x y px py y_pos in
    let b_pos : 0 < num y * den x = mul-pos y_pos (den_pos x) in
    let c : num x * den y ≤ num y * den x = le→cross x y px py (seconds_mono elapsed span h k) in (
      subst (λ (z : Float). T (le zero64 z)) (sym e)
          (subst (λ (z : Float). T (le z (round binary64 false (num x * den y) (num y * den x)))) zero_is
          (round_mono binary64 0 1 (num x * den y) (num y * den x) (zero-lt-suc 0) b_pos (omega arith))),
      subst (λ (z : Float). T (le z one64)) (sym e)
          (subst (λ (z : Float). T (le (round binary64 false (num x * den y) (num y * den x)) z)) one_is
          (round_mono binary64 (num x * den y) (num y * den x) 1 1 b_pos (zero-lt-suc 0) (omega arith))),
    )

pub share_within : ShareWithin
unfolding share
share_within from to query a b c d =
    let w = ratio_within (query - from) (to - from) (omega arith) (omega arith) (omega arith) in
    (ratio (query - from) (to - from), simp (le-ltb to from (le_of_lt a), ne_eqb (to - from) 0 (λ e. omega arith), le-ltb query from b), is_true _ w.0, is_true _ w.1)
