-- Which edge of the tree has a frame, and what it gives, as the contracts of the private functions cite it. No public contract rests on these.
use Rattle.std.specs.Prelude.{ℕ, List, Float}
use Rattle.std.specs.Prelude.{Option, None, Some, option_map}
use Rattle.time.specs.Reply.{Reply, answer, ◌then◌}
use Rattle.geometry.specs.declared.isometry.Isometry.{Isometry}
use Rattle.buffer.specs.declared.coverage.Coverage.{Coverage}
use Rattle.buffer.specs.Map.{get}
use Rattle.buffer.specs.Samples.{served, coverage}
use Rattle.registry.specs.Tree.{Edge, Tree}
use Rattle.registry.specs.Store.{tree_of}
use Rattle.registry.specs.Calls.{store_of}

-- P of the tree with this head, whatever its instants and poses
abbrev pub OfTree : List ℕ → (Tree → Type 0) → Type 0
OfTree h P = (instants : List ℕ) (poses : List Float) → P (tree_of (store_of h instants poses))

-- ---- the parent of a frame, none for a root

abbrev pub edge_parent : Tree → ℕ → Option ℕ
edge_parent t f = option_map (λ e. e.parent) (get t f)

-- ---- the pose of a frame at an instant and its parent, none for a root; 11 where it is not served

abbrev pub pose_of : ℕ → Option Edge → ℕ → Reply (Option (Isometry × ℕ))
pose_of f None i = answer None
pose_of f (Some e) i = served f e.kind e.samples i then λ p. answer (Some (p, e.parent))

abbrev pub edge_pose : Tree → ℕ → ℕ → Reply (Option (Isometry × ℕ))
edge_pose t f i = pose_of f (get t f) i

-- ---- the times at which a frame's edge is served and its parent, none for a root

abbrev pub edge_coverage : Tree → ℕ → Option (Coverage × ℕ)
edge_coverage t f = option_map (λ e. (coverage e.kind e.samples, e.parent)) (get t f)
