use Prim.Native.Nat.{ℕ}
use mathlib.Core.List.{List}
use lib.Ieee.{Float}
use Rattle.registry.specs.Tree.{Tree}
use Rattle.registry.specs.Store.{tree_of}
use Rattle.registry.specs.Calls.{store_of}
use Rattle.registry.proofs.paths.SideHops.{grounded}
use Rattle.registry.proofs.paths.ClimbingBoth.{source_above, target_above}
use Rattle.registry.proofs.paths.TreeWalks.{some_count}
use Rattle.registry.proofs.rows.Rows.climb_ends.Goals as goal

pub returns-in_default : goal.returns-in_default
returns-in_default c i p z = source_above _ (grounded (store_of c.args.self.now.head.now i p) c.args.self.now.rising z) _ _ (c.in_default.ensures i p)

pub returns-in_default-steps_to_root : goal.returns-in_default-steps_to_root
returns-in_default-steps_to_root c i p z = target_above _ (grounded (store_of c.args.self.now.head.now i p) c.args.self.now.rising z) _ _ (c.in_default-steps_to_root.ensures i p)

pub climb_both-requires : goal.climb_both-requires
climb_both-requires c = let a = c.args in
    let t : List ℕ → List Float → Tree = λ i p. tree_of (store_of a.self.now.head.now i p) in (
      λ i p. some_count (t i p) a.target a.source _ (c.in-Some.ensures i p),
      λ i p. some_count (t i p) a.source a.target _ (c.in-Some-steps_to_root.ensures i p),
    )
