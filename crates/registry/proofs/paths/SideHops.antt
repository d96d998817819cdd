-- The hops from a frame up to another, one at a time.
use Prim.Native.Nat.{ℕ, ◌<◌}
use mathlib.Core.Path.{◌≡◌, refl, ap, ◌∙◌}
use mathlib.Core.Bool.{true}
use Rattle.std.specs.Prelude.{None, Some}
use mathlib.Core.List.{List, [], ◌∷◌}
use lib.ListN.{length}
use lib.Dec.{eqb}
use borrow.Author.Tests.{eq-eqb, ne_eqb}
use Rattle.buffer.specs.Map.{get}
use Rattle.buffer.proofs.Cases.{both}
use Rattle.registry.specs.Tree.{Edge, Tree, ancestors}
use Rattle.registry.specs.Store.{Store, tree_of}
use Rattle.registry.specs.Sound.{no_circle}
use Rattle.registry.specs.Path.{chain, until, hops}
use Rattle.registry.specs.layout.Rows.{RisingRows}
use Rattle.registry.specs.paths.Walks.{hops_to}
use Rattle.registry.proofs.paths.Climbing.{Grounded, grounded_ranked}
use Rattle.registry.proofs.paths.Ancestors.{ancestors_none, ancestors_some}
use Rattle.registry.proofs.soundness.NoCircle.{circle_grounded}
use Rattle.registry.proofs.layout.TreeRows.{tree_rises}

-- f is a child of p
abbrev pub ChildOf : Tree → ℕ → ℕ → Type 0
ChildOf t f p = (e : Edge) × (get t f ≡ Some e) × (e.parent ≡ p)

pub hops_end : (t : Tree) (f : ℕ) → hops_to t f f ≡ []
hops_end t f = rw (eq-eqb f f refl)

module _ (t : Tree) (gr : Grounded t) where
  pub chain_up : (f : ℕ) (e : Edge) → get t f ≡ Some e → chain t f ≡ f ∷ chain t e.parent
  chain_up f e q = ap {B = List ℕ} (λ r. f ∷ r) (ancestors_some t gr f e q)

  pub hops_up : (f top : ℕ) (e : Edge) → get t f ≡ Some e → (top ≡ f → ⊥) → hops_to t f top ≡ (f, e) ∷ hops_to t e.parent top
  hops_up f top e q ne = ap (λ (xs : List ℕ). hops t (until (eqb top) xs)) (chain_up f e q) ∙ rw (ne_eqb top f ne, q)

  pub hops_root : (f top : ℕ) → get t f ≡ None → hops_to t f top ≡ []
  hops_root f top q =
      ap (λ (xs : List ℕ). hops t (until (eqb top) (f ∷ xs))) (ancestors_none t gr f q)
      ∙ both (eqb top f) (λ e. rw e) (λ e. rw (e, q))

  -- a parent has fewer frames above it
  pub less_above : (f p : ℕ) → ChildOf t f p → length (ancestors t p) < length (ancestors t f)
  less_above f p c = rw (← c.2) (grounded_ranked t gr f c.0 c.1)

pub grounded : (s : Store) → RisingRows s.head → no_circle (tree_of s) ≡ true → Grounded (tree_of s)
grounded s rows circles = circle_grounded (tree_of s) ((tree_rises s).0 rows.rises) circles
