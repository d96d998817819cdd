-- One step up the tree, by what a frame's edge gives, and how a climb towards a goal ends.
use Prim.Native.Nat.{ℕ, zero, suc, ◌+◌, ◌-◌, ◌<◌}
use mathlib.Core.Path.{◌≡◌, sym, ap, ◌∙◌}
use mathlib.Core.Bool.{true, cond}
use Rattle.std.specs.Prelude.{Option, None, Some}
use mathlib.Core.List.{List, [], ◌∷◌}
use native.Mathlib.Nat.{add-zero, zero-add}
use native.Mathlib.Omega.{arith}
use lib.ListN.{length}
use borrow.Author.Tests.{eq-eqb, ne_eqb}
use Rattle.time.proofs.Options.{Some-injective, None-ne-Some, Some-ne-None}
use Rattle.buffer.specs.Map.{get}
use Rattle.buffer.proofs.Cases.{both}
use Rattle.registry.specs.Tree.{Tree, above, ancestors, member}
use Rattle.registry.specs.Store.{used_in, tree_of}
use Rattle.registry.specs.Calls.{store_of}
use Rattle.registry.specs.layout.Rows.{head_of}
use Rattle.registry.specs.paths.Edges.{OfTree, edge_parent}
use Rattle.registry.specs.paths.Walks.{steps_to_root}
use Rattle.registry.proofs.layout.TreeRows.{length_tree}
use Rattle.registry.proofs.paths.Climbing.{edge_or}

-- ---- one step, by the parent that was read

abbrev rise_by : Option ℕ → (ℕ → List ℕ) → List ℕ
rise_by None next = []
rise_by (Some p) next = p ∷ next p

-- of a frame of which v was read
module _ (h : List ℕ) (f : ℕ) (v : Option ℕ) (reads : OfTree h (λ t. v ≡ edge_parent t f)) where
  pub above_by : (n : ℕ) → 0 < n → OfTree h (λ t. above n t f ≡ rise_by v (above (n - 1) t))
  above_by zero l i p = absurd (omega arith)
  above_by (suc n) l i p =
      let z : suc n - 1 ≡ n = omega arith in
      rw (z, reads i p) (edge_or (get (tree_of (store_of h i p)) f) (λ q. rw q) (λ e q. rw q))

-- the walk from a frame has at most as many steps as there are rows
pub above_used : (h : List ℕ) (n f : ℕ) → n ≡ used_in (head_of h) → OfTree h (λ t. ancestors t f ≡ above n t f)
above_used h n f e i p = let s = store_of h i p in ap (λ (m : ℕ). above m (tree_of s) f) (length_tree s ∙ sym e)

-- ---- how a climb towards a goal ends

-- after so many steps, with the frames xs to come
abbrev pub steps_on : ℕ → ℕ → List ℕ → Option ℕ
steps_on goal steps xs = cond (member goal xs) None (Some (steps + length xs))

pub steps_start : (t : Tree) (f goal : ℕ) → steps_to_root t f goal ≡ steps_on goal 0 (ancestors t f)
steps_start t f goal = rw zero-add

pub steps_end : (goal steps : ℕ) → steps_on goal steps [] ≡ Some steps
steps_end goal steps = rw add-zero

module _ (goal steps p : ℕ) (xs : List ℕ) where
  pub steps_here : p ≡ goal → steps_on goal steps (p ∷ xs) ≡ None
  steps_here e = rw (eq-eqb goal p (sym e))

  pub steps_up : (p ≡ goal → ⊥) → steps_on goal steps (p ∷ xs) ≡ steps_on goal (steps + 1) xs
  steps_up ne =
      let more : steps + suc (length xs) ≡ steps + 1 + length xs = omega arith in
      rw (ne_eqb goal p (λ e. ne (sym e))) (ap (λ (n : ℕ). cond (member goal xs) None (Some n)) more)

module _ (t : Tree) (f goal : ℕ) where
  pub none_above : None ≡ steps_to_root t f goal → member goal (ancestors t f) ≡ true
  none_above e =
      both (member goal (ancestors t f))
      (λ m. m)
      (λ m. let z : None ≡ Some (length (ancestors t f)) = e ∙ rw m in absurd (None-ne-Some _ z))

  pub some_count : (n : ℕ) → Some n ≡ steps_to_root t f goal → n ≡ length (ancestors t f)
  some_count n e =
      both (member goal (ancestors t f))
      (λ m. let z : Some n ≡ None = e ∙ rw m in absurd (Some-ne-None _ z))
      (λ m. let z : Some n ≡ Some (length (ancestors t f)) = e ∙ rw m in Some-injective _ _ z)
