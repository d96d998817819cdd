use Rattle.std.proofs.Common.{◌≡◌, ℕ, [], ◌+◌, sym, refl, ap, ◌∙◌, arith}
use Rattle.std.specs.Prelude.{Option, None, Some, option_map}
use Rattle.buffer.specs.Map.{get}
use Rattle.buffer.proofs.Cases.{none_some}
use Rattle.registry.specs.Tree.{Edge, Tree}
use Rattle.registry.specs.NextEdge.{told_edge}
use Rattle.registry.specs.declared.checked.Edge.{Edge as Told}
use Rattle.registry.proofs.Held.{child_fits}
use Rattle.console.specs.Walk.{behind_frame, lines_left}
use Rattle.console.specs.Reading.{tree_in}
use Rattle.console.proofs.tree.up.Goals as goal

-- nothing is left behind a root
at_root : (t : Tree) (f l u : ℕ) → None ≡ option_map (λ e. told_edge (f, e)) (get t f) → lines_left t 0 f u ≡ behind_frame (lines_left t l) f (get t f)
unfolding lines_left
at_root t f l u q = go (get t f) q
  where
    go : (m : Option Edge) → None ≡ option_map (λ (e : Edge). told_edge (f, e)) m → [] ≡ behind_frame (lines_left t l) f m
    go None h = refl
    go (Some e) h = absurd (none_some h)

module _ (t : Tree) (f : ℕ) (y : Told) where
  -- the edge of a child
  own : Some y ≡ option_map (λ e. told_edge (f, e)) (get t f) → (e : Edge) × (get t f ≡ Some e) × (y ≡ told_edge (f, e))
  own q = go (get t f) refl q
    where
      go : (m : Option Edge) → get t f ≡ m → Some y ≡ option_map (λ (e : Edge). told_edge (f, e)) m → (e : Edge) × (get t f ≡ Some e) × (y ≡ told_edge (f, e))
      go None g h = absurd (none_some (sym h))
      go (Some e) g h = (e, g, cc h)

  -- behind a child what is left one level up
  at_child : (l : ℕ) → Some y ≡ option_map (λ e. told_edge (f, e)) (get t f) → lines_left t l y.parent (f + 1) ≡ behind_frame (lines_left t l) f (get t f)
  at_child l q = let o = own q in ap (λ (z : Told). lines_left t l z.parent (f + 1)) o.2 ∙ ap (behind_frame (lines_left t l) f) (sym o.1)

pub returns-in_default-clause-left : goal.returns-in_default-clause-left
returns-in_default-clause-left c = at_root (tree_in c.args.store.now) c.args.frame _ _ c.in_default.ensures

pub overflow_add-result : goal.overflow_add-result
overflow_add-result c =
    let o = own (tree_in c.args.store.now) c.args.frame c.in-Some.edge c.in-Some.ensures in
    omega (arith, child_fits _ c.args.store.now.sound c.args.frame o.0 o.1)

pub returns-clause-left : goal.returns-clause-left
returns-clause-left c = at_child (tree_in c.args.store.now) c.args.frame c.in-Some.edge _ c.in-Some.ensures
