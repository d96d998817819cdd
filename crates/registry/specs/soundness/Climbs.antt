-- The climbs from all rows at once, as the contracts of the private functions cite them. No public contract rests on these.
use Rattle.std.specs.Prelude.{ℕ, zero, suc, ◌≤◌, ◌<◌, ◌≡◌, cond, List, ltb, length, get_or, set}
use Rattle.std.specs.Prelude.{None}
use Rattle.buffer.specs.Map.{get}
use Rattle.registry.specs.Store.{used_in}
use Rattle.registry.specs.Sound.{climb}
use Rattle.registry.specs.layout.Rows.{head_of, child_at}
use Rattle.registry.specs.paths.Edges.{OfTree}

-- At least m steps up from row r lead to row x, or, where x is past the rows used, to a frame that is no child.
pub record IsUp (h : List ℕ) (m r x : ℕ) : Type 0 where
  pub steps : ℕ
  pub enough : m ≤ steps
  pub row : x < used_in (head_of h) → OfTree h (λ t. child_at h x ≡ climb steps t (child_at h r))
  pub root : used_in (head_of h) ≤ x → OfTree h (λ t. get t (climb steps t (child_at h r)) ≡ None)

-- entry r of the list is where at least m steps up from row r lead
pub record Climbed (h : List ℕ) (m : ℕ) (l : List ℕ) : Type 0 where
  pub size : length l ≡ used_in (head_of h)
  pub up : (r : ℕ) → r < used_in (head_of h) → IsUp h m r (get_or l r 0)

-- the entry at x; past the list x itself
abbrev pub jump : List ℕ → ℕ → ℕ
jump l x = cond (ltb x (length l)) (get_or l x 0) x

-- entry r replaced by the entry at that entry
abbrev pub jump_at : List ℕ → ℕ → List ℕ
jump_at l r = set l r (jump l (get_or l r 0))

-- the first n entries, one after the other
abbrev pub jumped : ℕ → List ℕ → List ℕ
jumped zero l = l
jumped (suc n) l = jump_at (jumped n l) n
