-- The walk of `tree` over the frames below a root, as the contracts of private functions cite it. No public contract rests on these.
use Rattle.std.specs.Prelude.{◌≡◌, ℕ, zero, suc, ◌+◌, ◌-◌, ◌*◌, ◌<◌, List, [], ◌++◌, length, nat_le}
use Rattle.std.specs.Prelude.{Option, None, Some}
use Rattle.text.specs.Writing.{Writes}
use Rattle.text.specs.declared.write.Writer.{Writer}
use Rattle.buffer.specs.Map.{get, keep}
use Rattle.registry.specs.Tree.{Edge, Tree}
use Rattle.console.specs.declared.tree.Walk.{Walk}
use Rattle.console.specs.Tree.{under, lines_of, below, joined_lines}

-- nothing behind a root; behind a child f what is left under its parent, from f + 1 on
abbrev pub behind_frame : (ℕ → ℕ → List (List (List ℕ))) → ℕ → Option Edge → List (List (List ℕ))
behind_frame left f None = []
behind_frame left f (Some e) = left e.parent (f + 1)

-- The lines that are left of a walk over all frames below a root, which stands at a level under a frame f:
-- those of the children of f from a number on, and behind them those that are left one level up, behind f.
unfoldable pub lines_left : Tree → ℕ → ℕ → ℕ → List (List (List ℕ))
lines_left t zero f from = []
lines_left t (suc l) f from =
    lines_of (suc l) (below (256 - suc l) t (suc l + 1)) (keep (nat_le from) (under t f)) ++ behind_frame (lines_left t l) f (get t f)

-- the lines that are left where the walk stands
abbrev pub left_of : Tree → Walk → List (List (List ℕ))
left_of t w = lines_left t w.level w.under w.from

-- at most so many turns are left: one for each line, and one to leave each level
abbrev pub turns_left : Tree → Walk → ℕ
turns_left t w = 2 * length (left_of t w) + w.level

-- A turn leads from one walk and its writer to another: it writes the first of the texts that were left, and the others are left.
pub record Turned (t : Tree) (v : Writer) (w : Walk) (v₁ : Writer) (w₁ : Walk) : Type 0 where
  pub texts : List (List ℕ)
  pub wrote : Writes v v₁ texts
  pub left : joined_lines (left_of t w) ≡ texts ++ joined_lines (left_of t w₁)
  pub fewer : turns_left t w₁ < turns_left t w
