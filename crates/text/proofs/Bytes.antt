-- A byte by its two hexadecimal digits. Assumes nothing.
use Rattle.std.proofs.Common.{◌≡◌, refl, sym, ap, Bool, true, false, cond, ℕ, ◌+◌, ◌*◌, ◌^◌, ◌<◌, List, [], ◌∷◌, length, take, drop, get_or, arith}
use Rattle.std.specs.Prelude.{Option, None, Some}
use borrow.Author.Tests.{ltb-true, lt-ltb, le-ltb}
use lib.Dec.{ltb}
use Rattle.text.specs.Digits.{digit, below}
use Rattle.text.specs.Reading.{byte, byte_at}

-- a high and a low digit
abbrev pub two : Option ℕ → Option ℕ → Option ℕ
two None low = None
two (Some high) None = None
two (Some high) (Some low) = Some (16 * high + low)

digits : (a b : ℕ) → two (below 16 (Some (digit a))) (below 16 (Some (digit b))) ≡ byte (a ∷ b ∷ [])
digits a b = go (ltb (digit a) 16) (ltb (digit b) 16) (ltb-true (digit a) 16) (ltb-true (digit b) 16)
  where
    go : (s t : Bool) → (s ≡ true → digit a < 16) → (t ≡ true → digit b < 16)
        → two (cond s (Some (digit a)) None) (cond t (Some (digit b)) None) ≡ below (2 ^ 64) (cond s (cond t (Some ((0 * 16 + digit a) * 16 + digit b)) None) None)
    go false t p q = refl
    go true false p q = refl
    go true true p q =
        let high = p refl in
        let low = q refl in
        simp (lt-ltb ((0 * 16 + digit a) * 16 + digit b) (2 ^ 64) (omega arith)) (ap Some (omega arith))

pub read_byte_lem : (line : List ℕ) (at : ℕ)
    → byte_at line at ≡ cond (ltb (length (drop at line)) 2) None (two (below 16 (Some (digit (get_or (drop at line) 0 0)))) (below 16 (Some (digit (get_or (drop at line) 1 0)))))
unfolding byte_at
read_byte_lem line at = go (drop at line)
  where
    go : (l : List ℕ) → byte (take 2 l) ≡ cond (ltb (length l) 2) None (two (below 16 (Some (digit (get_or l 0 0)))) (below 16 (Some (digit (get_or l 1 0)))))
    go [] = refl
    go (a ∷ []) = refl
    go (a ∷ b ∷ l) = sym (simp (le-ltb (length (a ∷ b ∷ l)) 2 (omega arith)) (digits a b))
