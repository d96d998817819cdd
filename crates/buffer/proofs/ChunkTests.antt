-- A test of a whole list as the loops make it: chunk by chunk, and in a chunk by joining bits.
use Prim.Native.Nat.{ℕ, max}
use mathlib.Core.Path.{◌≡◌, sym, ap, ◌∙◌}
use mathlib.Core.Bool.{Bool, true, false, ◌&&◌, and_assoc, and-true}
use mathlib.Core.List.{List, [], ◌∷◌}
use native.Mathlib.Omega.{arith}
use lib.Dec.{eqb}
use borrow.Author.Tests.{eqb-true, eq-eqb}
use Rattle.std.specs.Prelude.{bit_or, fold}
use Rattle.std.specs.Int.{bit_at}
use Rattle.std.proofs.lemmas.Nat.Bits.{same_from_bits, bit_at_or, bit_at-zero}
use Rattle.buffer.specs.Map.{all}
use Rattle.buffer.proofs.Cases.{bool_ext, and_both, and_left, and_right}

-- ---- what is left of the whole is a chunk and the rest, and b is the test of the chunk

pub chunk_passes : {whole left chunk b : Bool} (rest : Bool) → whole ≡ left → left ≡ chunk && rest → b ≡ chunk → b ≡ true → whole ≡ rest
chunk_passes rest inv split e h = inv ∙ split ∙ ap (λ p. p && rest) (sym e ∙ h)

pub chunk_fails : {whole left chunk b : Bool} (rest : Bool) → whole ≡ left → left ≡ chunk && rest → b ≡ chunk → b ≡ false → false ≡ whole
chunk_fails rest inv split e h = sym (inv ∙ split ∙ ap (λ p. p && rest) (sym e ∙ h))

-- ---- no bit is set in what numbers are joined to where none is set in any of them

both_zero : (x y : ℕ) → max x y ≡ 0 → (x ≡ 0) × (y ≡ 0)
both_zero x y e = (omega arith, omega arith)

unset : (a b : ℕ) → bit_or a b ≡ 0 → (a ≡ 0) × (b ≡ 0)
unset a b e = (same_from_bits a 0 (λ i. (at i).0 ∙ sym (bit_at-zero i)), same_from_bits b 0 (λ i. (at i).1 ∙ sym (bit_at-zero i)))
  where
    at : (i : ℕ) → (bit_at a i ≡ 0) × (bit_at b i ≡ 0)
    at i = both_zero (bit_at a i) (bit_at b i) (sym (bit_at_or a b i) ∙ ap (λ (n : ℕ). bit_at n i) e ∙ bit_at-zero i)

joined : (a b : ℕ) → eqb (bit_or a b) 0 ≡ (eqb a 0 && eqb b 0)
joined a b =
    bool_ext (eqb (bit_or a b) 0) (eqb a 0 && eqb b 0)
    (λ e. let z = unset a b (eqb-true (bit_or a b) 0 e) in and_both _ _ (eq-eqb a 0 z.0) (eq-eqb b 0 z.1))
    (λ e.
    let p : a ≡ 0 = eqb-true a 0 (and_left (eqb a 0) (eqb b 0) e) in
    let q : b ≡ 0 = eqb-true b 0 (and_right (eqb a 0) (eqb b 0) e) in
    rw (p, q))

module _ {A : Type 0} (bits : A → ℕ) (test : A → Bool) (by_bits : (x : A) → test x ≡ eqb (bits x) 0) where
  fold_bits : (a : ℕ) (xs : List A) → eqb (fold (λ b x. bit_or b (bits x)) a xs) 0 ≡ (eqb a 0 && all test xs)
  fold_bits a [] = sym (and-true (eqb a 0))
  fold_bits a (x ∷ xs) =
      fold_bits (bit_or a (bits x)) xs
      ∙ rw (joined a (bits x), ← by_bits x) (and_assoc (eqb a 0) (test x) (all test xs))

  pub all_by_bits : (n : ℕ) (xs : List A) → n ≡ fold (λ b x. bit_or b (bits x)) 0 xs → eqb n 0 ≡ all test xs
  all_by_bits n xs e = rw e (fold_bits 0 xs)
