-- What holds of the lengths and of the struct. Proved in proofs/ under the same names.
use Rattle.std.specs.Prelude.{ℕ, ◌≡◌, true, ◌&&◌, length}
use Rattle.std.specs.Prelude.{Option}
use Rattle.time.specs.Reply.{Reply}
use Rattle.geometry.specs.declared.isometry.Isometry.{Isometry}
use Rattle.registry.specs.Store.{Store, sizes_fit}
use Rattle.registry.specs.Answers.{Value}
use Rattle.registry.specs.Replies.{Form, of_done, of_pose, fits, posed}
use Rattle.transforms_c.specs.Flat.{flat, flat_pose, flat_load}
use Rattle.transforms_c.specs.Lengths.{rows_fit, capacity_fits, head_len, instants_len, poses_len}

-- slices of the lengths told are opened, unless E or S is out of its bounds
abbrev pub LengthsFit : Type 0
LengthsFit =
    (rows capacity : ℕ) (s : Store)
    → length s.head ≡ head_len rows
    → length s.instants ≡ instants_len rows capacity
    → length s.poses ≡ poses_len rows capacity
    → sizes_fit rows capacity s ≡ (rows_fit rows && capacity_fits capacity)

-- The struct fixes the reply of the call that was made: two replies with answers of one form that fit are equal where their structs are.
abbrev pub FlatFixes : Type 0
FlatFixes = (form : Form) (r q : Reply Value) → fits form r ≡ true → fits form q ≡ true → flat r ≡ flat q → r ≡ q

-- the same of an operation on poses
abbrev pub FlatPoseFixes : Type 0
FlatPoseFixes = (r q : Reply Isometry) → fits of_pose (posed r) ≡ true → fits of_pose (posed q) ≡ true → flat_pose r ≡ flat_pose q → r ≡ q

-- the same of a load: the record's number, if there is one, and the reply
abbrev pub FlatLoadFixes : Type 0
FlatLoadFixes = (m n : Option ℕ) (r q : Reply Value) → fits of_done r ≡ true → fits of_done q ≡ true → flat_load m r ≡ flat_load n q → (m ≡ n) × (r ≡ q)
