-- The law of the lengths.
use Prim.Native.Nat.{ℕ}
use mathlib.Core.Path.{◌≡◌, refl}
use mathlib.Core.Bool.{Bool, true, false, cond, ◌&&◌}
use lib.Dec.{eqb, leb}
use lib.ListN.{length}
use borrow.Author.Tests.{eq-eqb}
use Rattle.registry.specs.Store.{head_length, instants_length, poses_length}
use Rattle.transforms_c.specs.Laws.{LengthsFit}

-- four tests of bounds, then three lengths
fits : (p q r t : Bool) (head instants poses words samples floats : ℕ)
    → head ≡ cond (p && q) words 0
    → instants ≡ cond ((p && q) && (r && t)) samples 0
    → poses ≡ cond ((p && q) && (r && t)) floats 0
    → (p && q && r && t && eqb head words && eqb instants samples && eqb poses floats) ≡ ((p && q) && (r && t))
fits true true true true head instants poses words samples floats h i f = simp (eq-eqb head words h, eq-eqb instants samples i, eq-eqb poses floats f)
fits true true true false head instants poses words samples floats h i f = refl
fits true true false t head instants poses words samples floats h i f = refl
fits true false r t head instants poses words samples floats h i f = refl
fits false q r t head instants poses words samples floats h i f = refl

pub lengths_fit : LengthsFit
lengths_fit rows capacity s h i f =
    fits (leb 1 rows) (leb rows 256) (leb 1 capacity) (leb capacity 1024) (length s.head) (length s.instants) (length s.poses)
    (head_length rows) (instants_length rows capacity) (poses_length rows capacity) h i f
