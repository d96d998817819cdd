-- Opening, addition and wipe are refused with the first number of their order that is due.
use Prim.Native.Nat.{ℕ, ◌≤◌}
use mathlib.Core.Path.{◌≡◌, refl, ◌∙◌}
use mathlib.Core.Bool.{not, ◌&&◌}
use Rattle.std.specs.Prelude.{Option, None, Some}
use native.Mathlib.Omega.{arith}
use lib.Dec.{eqb, leb, ltb}
use lib.ListN.{length}
use lib.Ieee.{lt}
use borrow.Author.Tests.{leb-true, leb-false, eq-eqb, ne_eqb}
use Rattle.time.specs.Float.{◌⊖◌, one64, abs}
use Rattle.time.specs.Reply.{Carried, nothing, norm, frame, Reply, answer, refusal, ◌then◌}
use Rattle.time.specs.Order.{when, due_at, due_or, first_due, refused}
use Rattle.geometry.specs.declared.isometry.Isometry.{Isometry}
use Rattle.geometry.specs.Vector3 as vector
use Rattle.geometry.specs.Quaternion as quaternion
use Rattle.geometry.specs.Transform.{tolerance, validate}
use Rattle.geometry.specs.Order.{pose_due}
use Rattle.geometry.proofs.Order.{refuse_due, refuse_then_due}
use Rattle.buffer.specs.Map.{get}
use Rattle.buffer.proofs.Cases.{both}
use Rattle.buffer.specs.Kind.{kind_of}
use Rattle.registry.specs.Tree.{Edge, Tree, Limits, Addition, is_absent, ancestors, member, other_parent, current_parent, other_kind, updated_edge, add, wiped, wipe}
use Rattle.registry.specs.Store.{Store, limits_of, tree_of, sizes_fit}
use Rattle.registry.specs.Calls.{written, open_of, on_tree, add_of, wipe_of}
use Rattle.registry.specs.Order.{open_due, OpenFirstDue, add_order, add_due, AddFirstDue, wipe_order, wipe_due, WipeFirstDue}
use Rattle.registry.proofs.layout.TreeRows.{length_tree}
use Rattle.registry.proofs.soundness.Rules.{sound_is}
use Rattle.registry.proofs.orders.Lent.{lent_due_lem}

-- the reply keeps the refusal that leaves every word as it was
written_refused : (s : Store) (L : Limits) (r : Reply Tree) → refused (written s L r).reply ≡ refused r
written_refused s L (answer t) = refl
written_refused s L (refusal k c) = refl

-- ---- opening

pub open_first_due : OpenFirstDue
unfolding open_of open_due
open_first_due s L = both (sizes_fit L.rows L.capacity s) (λ e. rw e) (λ e. rw e)

-- ---- addition

-- "N = E": no more rows are used than there are
full_is : (n rows : ℕ) → n ≤ rows → leb rows n ≡ eqb n rows
full_is n rows few =
    both (leb rows n)
    (λ e. let l = leb-true rows n e in rw (e, eq-eqb n rows (omega arith)))
    (λ e. let l = leb-false rows n e in let ne : n ≡ rows → ⊥ = λ q. omega arith in rw (e, ne_eqb n rows ne))

-- 3, else 4, else what follows a pose that passes
pose_due_lem : {A : Type 0} (a : Isometry) (next : Isometry → Reply A) (later : Option (ℕ × Carried)) → refused (next a) ≡ later
    → refused (validate a then next) ≡ due_or 3 (due_at (pose_due a) 3) (due_or 4 (due_at (pose_due a) 4) later)
unfolding validate pose_due
pose_due_lem a next later h =
    let n = quaternion.norm a.rotation in
    refuse_then_due (not (vector.is_finite a.translation && quaternion.is_finite a.rotation)) 3 nothing _ next _
    (refuse_then_due (lt tolerance (abs (n ⊖ one64))) 4 (norm n) (answer a) next later h)

add_due_lem : (L : Limits) (t : Tree) (a : Addition) → length t ≤ L.rows → refused (add L t a) ≡ first_due (add_due L t a) add_order
unfolding add add_due
add_due_lem L t a few =
    let held = get t a.child in
    rw (full_is (length t) L.rows few)
    (refuse_due (is_absent held && member a.child (ancestors t a.parent)) 7 nothing _ _
    (pose_due_lem a.pose _ _
    (refuse_due (eqb a.parent a.child) 5 nothing _ _
    (refuse_due (other_parent held a.parent) 6 (current_parent held) _ _
    (refuse_due (other_kind held (kind_of a.stamp)) 8 nothing _ _
    (refuse_due (is_absent held && eqb (length t) L.rows) 16 nothing _ _
    (refuse_due (ltb L.capacity (length (updated_edge L.age a held).samples)) 17 nothing _ None refl)))))))

pub add_first_due : AddFirstDue
unfolding add_of limits_of
add_first_due s a =
    written_refused s (limits_of s) (on_tree s (λ L t. add L t a))
    ∙ lent_due_lem s (λ L t. add L t a) (add_due (limits_of s) (tree_of s) a) add_order refl
    (λ ok. add_due_lem (limits_of s) (tree_of s) a (rw (length_tree s) ((sound_is s).0 ok.rules).few))

-- ---- wipe

wipe_due_lem : (t : Tree) (f i : ℕ) → refused (wipe t f i) ≡ first_due (wipe_due t f) wipe_order
unfolding wipe wipe_due
wipe_due_lem t f i = by (get t f)
  where
    by : (held : Option Edge) → refused (wiped f i t held) ≡ due_or 9 (when (is_absent held) (frame f)) None
    by None = refl
    by (Some e) = refl

pub wipe_first_due : WipeFirstDue
unfolding wipe_of
wipe_first_due s f i =
    written_refused s (limits_of s) (on_tree s (λ L t. wipe t f i))
    ∙ lent_due_lem s (λ L t. wipe t f i) (wipe_due (tree_of s) f) wipe_order refl (λ ok. wipe_due_lem (tree_of s) f i)
