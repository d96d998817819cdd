-- Reading a tree through, edge by edge in the order of its children.
use Rattle.std.specs.Prelude.{ℕ, ◌≤◌, ◌≡◌, true, List, leb, length, map, drop}
use Rattle.std.specs.Prelude.{Option, None, Some}
use Rattle.buffer.specs.Map.{get, keep, rising}
use Rattle.buffer.specs.Samples.{coverage, first?}
use Rattle.registry.specs.declared.checked.Edge.{Edge as Told}
use Rattle.registry.specs.Tree.{Edge, Tree}

-- the first child that is f or greater, and its edge
abbrev pub edge_from : Tree → ℕ → Option (ℕ × Edge)
edge_from t f = first? (keep (leb f) t)

-- what is told of an edge: the child, its parent, how many samples it holds and when it is served
abbrev pub told_edge : ℕ × Edge → Told
told_edge x = record { child = x.0; parent = x.1.parent; count = length x.1.samples; coverage = coverage x.1.kind x.1.samples }

abbrev pub told : Option (ℕ × Edge) → Option Told
told None = None
told (Some x) = Some (told_edge x)

-- what is told of the edges from row r on
unfoldable pub told_from : ℕ → Tree → List Told
told_from r t = map told_edge (drop r t)

-- ---- law, proved in proofs/ under the same name

-- what is read is in the tree, and no child is passed over
pub record ReadsThrough : Type 0 where
  -- it is an edge of the tree, from the frame on
  pub held : (t : Tree) (f : ℕ) (x : ℕ × Edge) → edge_from t f ≡ Some x → (f ≤ x.0) × (get t x.0 ≡ Some x.1)
  -- for every child from the frame on, one is read, and that is no greater
  pub first : (t : Tree) (f c : ℕ) (e : Edge) → rising t ≡ true → get t c ≡ Some e → f ≤ c → (x : ℕ × Edge) × (edge_from t f ≡ Some x) × (x.0 ≤ c)
  -- from a child on, its own edge is the first
  pub own : (t : Tree) (f : ℕ) (e : Edge) → rising t ≡ true → get t f ≡ Some e → edge_from t f ≡ Some (f, e)
