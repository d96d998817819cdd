-- The tree of a store that has been tested, as the contracts of private functions cite it. No public contract rests on this.
use Rattle.registry.specs.Tree.{Tree}
use Rattle.registry.specs.Store.{tree_of}
use Rattle.registry.specs.Calls.{words}
use Rattle.registry.specs.declared.checked.Checked.{Checked}

abbrev pub tree_in : Checked → Tree
tree_in s = tree_of (words s.store)
