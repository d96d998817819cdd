-- The digits times a power of ten, by one product or one quotient of exact floats. Assumes nothing.
use mathlib.Core.Path.{◌≡◌, sym, ap, ◌∙◌, subst}
use mathlib.Core.Bool.{Bool, false}
use Rattle.std.specs.Prelude.{Some}
use Prim.Native.Nat.{ℕ, ◌+◌, ◌-◌, ◌*◌, ◌^◌, ◌≤◌, ◌<◌}
use native.Mathlib.Nat.{mul-one, one-le-pow, zero-lt-suc}
use native.Mathlib.Omega.{arith}
use borrow.Author.Tests.{lt-ltb, le-leb}
use lib.Ieee.{Float, binary64, mul, div, round}
use lib.Ieee.Exact.{HasValue}
use Rattle.text.specs.Decimal.{rounded, scaled}
use Rattle.text.proofs.Exact.{product_rounded, quotient_rounded}

module _ (negative : Bool) (d up down : ℕ) (few : d ≤ 999999999999999) where
  within : (x : Float) → x ≡ rounded negative d up down → up ≤ down + 22 → down ≤ up + 22 → Some x ≡ scaled negative d up down
  within x e h g = simp (lt-ltb d (10 ^ 15) (omega arith), le-leb up (down + 22) h, le-leb down (up + 22) g) (ap Some e)

  -- one product or one quotient of exact floats, the second 10^k
  module _ (x y : Float) (p : HasValue x negative d 1) where
    pub multiplied : {k : ℕ} → down ≤ up → k ≤ 22 → HasValue y false (10 ^ k) 1 → k ≡ up - down → Some (mul binary64 x y) ≡ scaled negative d up down
    multiplied {k} h g v s =
        let q : HasValue y false (10 ^ (up - down)) 1 = subst (λ (n : ℕ). HasValue y false (10 ^ n) 1) s v in
        let z : 0 ≡ down - up = omega arith in
        let e = product_rounded negative d (10 ^ (up - down)) x y p q in
        within (mul binary64 x y) (e ∙ ap (λ (k : ℕ). round binary64 negative (d * 10 ^ (up - down)) (10 ^ k)) z) (omega arith) (omega arith)

    pub divided : {k : ℕ} → up < down → k ≤ 22 → HasValue y false (10 ^ k) 1 → k ≡ down - up → Some (div binary64 x y) ≡ scaled negative d up down
    divided {k} h g v s =
        let q : HasValue y false (10 ^ (down - up)) 1 = subst (λ (n : ℕ). HasValue y false (10 ^ n) 1) s v in
        let z : 0 ≡ up - down = omega arith in
        let e = quotient_rounded negative d (10 ^ (down - up)) (one-le-pow (down - up) 10 (zero-lt-suc 9)) x y p q in
        within (div binary64 x y)
        (e
        ∙ ap (λ (n : ℕ). round binary64 negative n (10 ^ (down - up))) (sym (mul-one d))
        ∙ ap (λ (k : ℕ). round binary64 negative (d * 10 ^ k) (10 ^ (down - up))) z)
        (omega arith) (omega arith)
