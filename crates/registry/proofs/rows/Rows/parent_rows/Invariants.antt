use Prim.Native.Nat.{ℕ, ◌<◌}
use lib.ListN.{get_or}
use Rattle.registry.specs.soundness.Climbs.{IsUp}
use Rattle.registry.proofs.rows.Rows.parent_rows.Given as goal

-- `registry::rows::Rows::parent_rows` meets its contract. The invariant of its loop: each entry passed is one step up.
abbrev pub invariant-loop-r : goal.invariant-loop-r
invariant-loop-r l = (k : ℕ) → k < l.r → IsUp l.self.head.now 1 k (get_or l.rows k 0)
