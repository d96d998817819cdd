-- Whether some row of the head has the frame as parent.
use Prim.Native.Nat.{ℕ, zero, suc, ◌<◌}
use mathlib.Core.Path.{◌≡◌, refl, sym, ap, ◌∙◌}
use mathlib.Core.Bool.{true, false}
use mathlib.Core.List.{List, [], ◌∷◌}
use native.Mathlib.Omega.{arith}
use lib.ListN.{length, get_or}
use lib.Dec.{eqb}
use borrow.Author.Tests.{eq-eqb, ne_eqb}
use Rattle.buffer.proofs.Cases.{both}
use Rattle.registry.specs.Tree.{Edge, Tree}
use Rattle.registry.specs.Store.{used_in, parent_in, tree_of}
use Rattle.registry.specs.Calls.{store_of}
use Rattle.registry.specs.Path.{is_parent}
use Rattle.registry.specs.layout.Rows.{head_of}
use Rattle.registry.specs.paths.Edges.{OfTree}
use Rattle.registry.proofs.layout.StoreBack.{blank}
use Rattle.registry.proofs.layout.TreeRows.{length_tree, tree_row}

-- ---- parents

parent_at_lem : (t : Tree) (f r : ℕ) → r < length t → (get_or t r blank).1.parent ≡ f → is_parent f t ≡ true
parent_at_lem [] f r l e = absurd (omega arith)
parent_at_lem (x ∷ t) f zero l e = rw (eq-eqb x.1.parent f e)
parent_at_lem (x ∷ t) f (suc r) l e = both (eqb x.1.parent f) (λ q. rw q) (λ q. rw q (parent_at_lem t f r (omega arith) e))

no_parent : (t : Tree) (f : ℕ) → ((r : ℕ) → r < length t → (get_or t r blank).1.parent ≡ f → ⊥) → is_parent f t ≡ false
no_parent [] f h = refl
no_parent (x ∷ t) f h = rw (ne_eqb x.1.parent f (h 0 (omega arith))) (no_parent t f (λ r l. h (suc r) (omega arith)))

module _ (h : List ℕ) (f : ℕ) where
  pub parent_found : (r : ℕ) → r < used_in (head_of h) → parent_in (head_of h) r ≡ f → OfTree h (λ t. true ≡ is_parent f t)
  parent_found r l e i p =
      let s = store_of h i p in
      sym (parent_at_lem (tree_of s) f r (omega (arith, length_tree s)) (ap (λ (x : ℕ × Edge). x.1.parent) (tree_row s r l) ∙ e))

  pub parent_nowhere : ((r : ℕ) → r < used_in (head_of h) → parent_in (head_of h) r ≡ f → ⊥) → OfTree h (λ t. false ≡ is_parent f t)
  parent_nowhere nowhere i p =
      let s = store_of h i p in
      sym (no_parent (tree_of s) f (λ r l e.
      let u : r < used_in (head_of h) = omega (arith, length_tree s) in
      nowhere r u (sym (ap (λ (x : ℕ × Edge). x.1.parent) (tree_row s r u)) ∙ e)))
