-- What `compare` says, and what it gives.
use mathlib.Core.Path.{◌≡◌, refl}
use mathlib.Core.Bool.{not}
use Prim.Native.Nat.{ℕ, ◌≤◌, ◌<◌, compare, Ordering}
use native.Mathlib.Omega.{arith}
use lib.Dec.{T, is_le, compare_is_eq, leb→le, nleb→lt, eqb→eq}

abbrev pub Says : ℕ → ℕ → Ordering → Type 0
Says a b o = (T (is_le o) → a ≤ b) × (T (not (is_le o)) → b < a) × (T (compare_is_eq o) → a ≡ b)

pub says : (a b : ℕ) → Says a b (compare a b)
says a b = (leb→le a b, nleb→lt a b, eqb→eq a b)

pub compare_lt : (a b : ℕ) → a < b → compare a b ≡ Ordering.lt
compare_lt a b h = go (compare a b) (says a b)
  where
    go : (o : Ordering) → Says a b o → o ≡ Ordering.lt
    go Ordering.lt s = refl
    go Ordering.eq s = absurd (omega (arith, s.2 tt))
    go Ordering.gt s = absurd (omega (arith, s.1 tt))

pub compare_gt : (a b : ℕ) → b < a → compare a b ≡ Ordering.gt
compare_gt a b h = go (compare a b) (says a b)
  where
    go : (o : Ordering) → Says a b o → o ≡ Ordering.gt
    go Ordering.lt s = absurd (omega (arith, s.0 tt))
    go Ordering.eq s = absurd (omega (arith, s.0 tt))
    go Ordering.gt s = refl
