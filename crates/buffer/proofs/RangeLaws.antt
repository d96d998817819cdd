-- A row's range and coverage: from the first instant held to the newest.
use Prim.Native.Nat.{ℕ}
use mathlib.Core.Path.{◌≡◌, ap}
use mathlib.Core.Bool.{Bool, true, false, ◌&&◌}
use Rattle.std.specs.Prelude.{Option, None, Some}
use mathlib.Core.List.{◌∷◌}
use lib.Dec.{leb}
use Rattle.geometry.specs.declared.isometry.Isometry.{Isometry}
use Rattle.buffer.specs.declared.coverage.Coverage.{Coverage}
use Rattle.buffer.specs.declared.coverage.Coverage.TheVariants.{AllTime, Range, Empty}
use Rattle.buffer.specs.Samples.{Samples, newest, range}

-- an instant is in a range, if there is one
abbrev pub within : Option (ℕ × ℕ) → ℕ → Bool
within None t = false
within (Some r) t = leb r.0 t && leb t r.1

abbrev pub covers : Coverage → ℕ → Bool
covers AllTime t = true
covers (Range start end) t = leb start t && leb t end
covers Empty t = false

pub range_parts : (x : ℕ × Isometry) (m : Samples) (a b : ℕ) → range (x ∷ m) ≡ Some (a, b) → (x.0 ≡ a) × (newest (x ∷ m) ≡ b)
range_parts x m a b e =
    let pair : ◌≡◌ {A = ℕ × ℕ} (x.0, newest (x ∷ m)) (a, b) = cc e in
    (ap (λ (z : ℕ × ℕ). z.0) pair, ap (λ (z : ℕ × ℕ). z.1) pair)
