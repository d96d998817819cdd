-- Lists of f64 values: their bits fix them, and bits all 0 are positive zero.
use Prim.Native.Nat.{ℕ, zero, suc, ◌+◌}
use mathlib.Core.Path.{◌≡◌, refl, sym, ap, ◌∙◌}
use mathlib.Core.Bool.{true}
use mathlib.Core.List.{List, [], ◌∷◌}
use lib.ListN.{length, take, drop, replicate}
use lib.Seq.{get_or-drop}
use lib.Dec.{T}
use lib.Ieee.{Float, nan, binary64, fits, of_bits, to_bits}
use lib.Ieee.Bits.{of_bits-to_bits}
use lib.Ieee.Fits.{nan-fits}
use borrow.Author.Tests.{eqb-true}
use Rattle.time.specs.Float.{zero64}
use Rattle.buffer.specs.Map.{all}
use Rattle.buffer.specs.Row.{is_zero, FloatsFit}
pub use Rattle.buffer.specs.Row.{is_zero64}
use Rattle.buffer.proofs.Cases.{and_left, and_right}

pub fit_drop : (n : ℕ) (fs : List Float) → FloatsFit fs → FloatsFit (drop n fs)
fit_drop n fs h i = rw (get_or-drop n fs i nan) (h (n + i))

pub fit_take : (n : ℕ) (fs : List Float) → FloatsFit fs → FloatsFit (take n fs)
fit_take zero fs h i = nan-fits binary64
fit_take (suc n) [] h i = h i
fit_take (suc n) (x ∷ fs) h zero = h 0
fit_take (suc n) (x ∷ fs) h (suc i) = fit_take n fs (λ j. h (suc j)) i

pub zero_float : (x : Float) → T (fits binary64 x) → is_zero x ≡ true → x ≡ zero64
zero_float x h e = sym (of_bits-to_bits binary64 x h) ∙ ap (of_bits binary64) (eqb-true (to_bits binary64 x) 0 e)

pub zeros : (fs : List Float) → FloatsFit fs → all is_zero fs ≡ true → fs ≡ replicate (length fs) zero64
zeros [] h e = refl
zeros (x ∷ fs) h e = λ i. zero_float x (h 0) (and_left (is_zero x) _ e) i ∷ zeros fs (λ j. h (suc j)) (and_right (is_zero x) _ e) i
