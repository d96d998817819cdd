-- The edges that are still to be read, one after the other.
use Rattle.std.specs.Prelude.{List}
use Rattle.registry.specs.declared.checked.Edge.{Edge}
use Rattle.registry.specs.declared.edges.Edges.{Edges}
use Rattle.registry.specs.Store.{tree_of}
use Rattle.registry.specs.Calls.{words}
use Rattle.registry.specs.NextEdge.{told_from}

-- what is told of those that are left
abbrev pub edges_left : Edges → List Edge
edges_left s = told_from s.row (tree_of (words s.checked.store))
