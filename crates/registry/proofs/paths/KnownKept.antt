-- Which frames are known after an edge has been put into a tree: those that were, and a new child and its parent.
use Prim.Native.Nat.{ℕ}
use mathlib.Core.Path.{◌≡◌, sym, ap, ◌∙◌}
use mathlib.Core.Bool.{Bool, true, ◌||◌}
use Rattle.std.specs.Prelude.{None, Some}
use mathlib.Core.List.{[], ◌∷◌}
use native.Mathlib.Omega.{arith}
use lib.Dec.{eqb}
use borrow.Author.Tests.{lt-ltb, le-ltb, eq-eqb, ne_eqb, eqb-true, eqb-false}
use Rattle.buffer.specs.Map.{get, put}
use Rattle.buffer.proofs.Cases.{both, none_some, false_true, Tri, less, same, more, tri}
use Rattle.buffer.proofs.Maps.{Rising, get_floor, get_put_same, get_put_other}
use Rattle.registry.specs.Tree.{Edge, Tree}
use Rattle.registry.specs.Path.{is_parent, known}
use Rattle.registry.proofs.paths.Climbing.{edge_or}
use Rattle.registry.proofs.paths.Ancestors.{some_in}

module _ (f c : ℕ) (d : Edge) where
  -- ---- an edge in the place of one with the same parent

  parents_held : (t : Tree) (e : Edge) → Rising t → get t c ≡ Some e → d.parent ≡ e.parent → is_parent f (put c d t) ≡ is_parent f t
  parents_held [] e r q p = absurd (none_some q)
  parents_held (x ∷ t) e r q p = go (tri c x.0) (parents_held t e r.1)
    where
      go : Tri c x.0 → (get t c ≡ Some e → d.parent ≡ e.parent → is_parent f (put c d t) ≡ is_parent f t)
          → is_parent f (put c d (x ∷ t)) ≡ is_parent f (x ∷ t)
      go (less l) ih = absurd (none_some (sym (get_floor x.0 c t r.0 (omega arith)) ∙ rw (ne_eqb c x.0 (λ s. omega arith)) at q))
      go (same s) ih =
          rw (le-ltb c x.0 (omega arith), eq-eqb c x.0 s)
          (ap (λ (n : ℕ). eqb n f || is_parent f t) (p ∙ ap (λ (z : Edge). z.parent) (sym (some_in (rw (eq-eqb c x.0 s) at q)))))
      go (more l) ih =
          rw (le-ltb c x.0 (omega arith), ne_eqb c x.0 (λ s. omega arith))
          (ap (λ (b : Bool). eqb x.1.parent f || b) (ih (rw (ne_eqb c x.0 (λ s. omega arith)) at q) p))

  pub known_held : (t : Tree) (e : Edge) → Rising t → get t c ≡ Some e → d.parent ≡ e.parent → known (put c d t) f ≡ known t f
  known_held t e r q p =
      both (eqb f c)
      (λ s. rw (eqb-true f c s, get_put_same c d t, q))
      (λ s. rw (get_put_other c f d t (eqb-false f c s), parents_held t e r q p))

  -- ---- a new child

  parents_new : (t : Tree) → get t c ≡ None → is_parent f t ≡ true → is_parent f (put c d t) ≡ true
  parents_new [] n k = absurd (false_true k)
  parents_new (x ∷ t) n k = go (tri c x.0) (parents_new t)
    where
      go : Tri c x.0 → (get t c ≡ None → is_parent f t ≡ true → is_parent f (put c d t) ≡ true) → is_parent f (put c d (x ∷ t)) ≡ true
      go (less l) ih = rw (lt-ltb c x.0 l) (both (eqb d.parent f) (λ s. rw s) (λ s. rw s k))
      go (same s) ih = absurd (none_some (sym (rw (eq-eqb c x.0 s) at n)))
      go (more l) ih =
          rw (le-ltb c x.0 (omega arith), ne_eqb c x.0 (λ s. omega arith))
          (both (eqb x.1.parent f) (λ s. rw s) (λ s. rw s (ih (rw (ne_eqb c x.0 (λ s. omega arith)) at n) (rw s at k))))

  pub known_new : (t : Tree) → get t c ≡ None → known t f ≡ true → known (put c d t) f ≡ true
  known_new t n k =
      both (eqb f c)
      (λ s. rw (eqb-true f c s, get_put_same c d t))
      (λ s. rw (get_put_other c f d t (eqb-false f c s)) (edge_or (get t f) (λ q. rw q (parents_new t n (rw q at k))) (λ e q. rw q)))
