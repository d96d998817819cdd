-- Powers of four, and how many binary digits a number has at least.
use mathlib.Core.Path.{◌≡◌, refl, sym, ap, ◌∙◌, subst}
use Prim.Native.Nat.{ℕ, zero, suc, ◌+◌, ◌*◌, ◌^◌, ◌≤◌, ◌<◌}
use native.Mathlib.Nat.{pow-suc, lt_irrefl, lt_of_lt_of_le, lt_of_not-le, le_trans}
use native.Mathlib.Omega.{arith}
use lib.Pow.{pow-add, pow_pos, pow_mono}
use lib.Ieee.{size}
use lib.Ieee.Digits.{size-lt}

pub four : (k : ℕ) → 4 ^ k ≡ 2 ^ (k + k)
four zero = refl
four (suc k) =
    let e : suc k + suc k ≡ k + k + 2 = omega arith in
    pow-suc 4 k ∙ ap (λ (x : ℕ). x * 4) (four k) ∙ sym (pow-add 2 (k + k) 2) ∙ ap (λ (x : ℕ). 2 ^ x) (sym e)

pub four_pos : (k : ℕ) → 0 < 4 ^ k
four_pos k = subst (λ (x : ℕ). 0 < x) (sym (four k)) (pow_pos (k + k))

pub size_gt : (n j : ℕ) → 2 ^ j ≤ n → j < size n
size_gt n j h = lt_of_not-le (λ (g : size n ≤ j). lt_irrefl n (lt_of_lt_of_le (size-lt n) (le_trans (pow_mono g) h)))
