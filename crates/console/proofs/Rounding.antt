-- A number rounded to millionths, by its parts.
use Rattle.std.proofs.Common.{◌≡◌, ℕ, ◌+◌, ◌-◌, ◌*◌, ◌/◌, ◌^◌, ◌<◌, ◌≤◌, Bool, true, false, cond, ◌&&◌, T, pos, sym, refl, ap, ◌∙◌, subst, div-lt_iff_lt-mul, arith, lt→ltb, ltb-true, le-ltb, lt-ltb}
use native.Mathlib.Nat.{min-le_left}
use lib.Ieee.{Float, nan, inf, fin, up, down, lt, neg, of_bits, to_unsigned}
use lib.Ieee.Fits.{down_pos}
use Rattle.time.specs.Float.{◌⊕◌, ◌⊖◌, ◌⊗◌, whole, one64}
use Rattle.console.specs.Figures.{beyond, million, half, whole_part, millionths, rounded}

truncated_small : (x : Float) → lt x beyond ≡ true → to_unsigned 64 x < 2 ^ 63
unfolding lt of_bits to_unsigned
truncated_small nan h = omega arith
truncated_small (inf true) h = omega arith
truncated_small (inf false) h = absurd (subst T (sym h) tt)
truncated_small (fin true m e) h = omega arith
truncated_small (fin false m e) h =
    let below = ltb-true (m * up e * 1) (1 * 2 ^ 63 * down e) h in
    let quotient : m * up e / down e < 2 ^ 63 = (div-lt_iff_lt-mul (down_pos e)).1 (omega arith) in
    omega (arith, min-le_left (m * up e / down e) (2 ^ 64 - 1))

-- what is below 2^63 is below 2^64
pub below_next : (x : Float) → lt x beyond ≡ true → T (lt x (fin false 1 (pos 64)))
unfolding lt of_bits
below_next nan h = absurd (subst T (sym h) tt)
below_next (inf true) h = tt
below_next (inf false) h = absurd (subst T (sym h) tt)
below_next (fin true m e) h = lt→ltb 0 (m * up e * 1 + 1 * 2 ^ 64 * down e) (omega (arith, down_pos e))
below_next (fin false m e) h =
    let below = ltb-true (m * up e * 1) (1 * 2 ^ 63 * down e) h in
    lt→ltb (m * up e * 1) (1 * 2 ^ 64 * down e) (omega (arith, down_pos e))

-- a whole part can be carried into
pub whole_small : (x : Float) → whole_part x < 2 ^ 63
unfolding whole_part
whole_small x = go (lt (neg one64) x) (lt x beyond) refl
  where
    go : (a b : Bool) → lt x beyond ≡ b → cond (a && b) (to_unsigned 64 x) 0 < 2 ^ 63
    go true true h = truncated_small x h
    go true false h = omega arith
    go false true h = omega arith
    go false false h = omega arith

-- the millionths are found from the whole part
pub near : (x v : Float) (w m : ℕ) → w ≡ whole_part x → v ≡ whole w → m ≡ whole_part ((x ⊖ v) ⊗ million ⊕ half) → m ≡ millionths x
unfolding millionths
near x v w m p q r = r ∙ ap (λ (u : Float). whole_part ((x ⊖ u) ⊗ million ⊕ half)) (q ∙ ap whole p)

-- fewer than a million, and a million of them
pub below_million : (x : Float) (w m : ℕ) → w ≡ whole_part x → m ≡ millionths x → m < 10 ^ 6 → (w, m) ≡ rounded x
unfolding rounded
below_million x w m p q h = rw (← p, ← q, lt-ltb m (10 ^ 6) h) refl

pub a_million : (x : Float) (w m : ℕ) → w ≡ whole_part x → m ≡ millionths x → 10 ^ 6 ≤ m → (w + 1, 0) ≡ rounded x
unfolding rounded
a_million x w m p q h = rw (← p, ← q, le-ltb m (10 ^ 6) h) refl
