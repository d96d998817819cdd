-- The steps of an addition, as the contracts of the private functions cite them. No public contract rests on these.
use Rattle.std.specs.Prelude.{ℕ, ◌&&◌, eqb, leb, length}
use Rattle.std.specs.Prelude.{Option}
use Rattle.time.specs.Reply.{Reply, nothing, refuse, ◌then◌}
use Rattle.geometry.specs.declared.isometry.Isometry.{Isometry}
use Rattle.geometry.specs.Transform.{validate}
use Rattle.registry.specs.declared.addition.Addition.{Addition as Added}
use Rattle.buffer.specs.Kind.{kind_of}
use Rattle.registry.specs.Tree.{Edge, Tree, Limits, Addition, addition, is_absent, ancestors, member, other_parent, current_parent, other_kind}

-- what the code's struct asks for
abbrev pub addition_of : Added → Addition
addition_of a = addition a.child a.parent a.stamp a.pose

module _ {A : Type 0} where
  -- the tests of the pose and the frames: 3, 4, 5
  abbrev pub pose_tests : ℕ → ℕ → Isometry → Reply A → Reply A
  pose_tests child parent pose next = validate pose then λ p. refuse (eqb parent child) 5 nothing next

  -- the tests of an addition before 17, and what follows them
  unfoldable pub admits : Limits → Tree → Addition → Option Edge → Reply A → Reply A
  admits L t a held next =
      refuse (is_absent held && member a.child (ancestors t a.parent)) 7 nothing
      (pose_tests a.child a.parent a.pose
      (refuse (other_parent held a.parent) 6 (current_parent held)
      (refuse (other_kind held (kind_of a.stamp)) 8 nothing
      (refuse (is_absent held && leb L.rows (length t)) 16 nothing next))))
