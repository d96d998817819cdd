-- The edge of a frame, among those from it on.
use Rattle.std.proofs.Common.{◌≡◌, ℕ, true, cond, eqb, sym, refl, ap, ◌∙◌, eq-eqb, ne_eqb}
use Rattle.std.specs.Prelude.{Option, None, Some, option_map}
use Rattle.buffer.specs.Map.{get, rising}
use Rattle.buffer.proofs.Cases.{none_some}
use Rattle.registry.specs.Tree.{Edge, Tree}
use Rattle.registry.specs.NextEdge.{edge_from, told, told_edge}
use Rattle.registry.specs.declared.checked.Edge.{Edge as Told}
use Rattle.registry.proofs.NextEdge.{reads_through}

-- what is kept of an edge that is read: that of the frame
abbrev pub own_of : ℕ → Option Told → Option Told
own_of f None = None
own_of f (Some y) = cond (eqb y.child f) (Some y) None

pub own_edge : (t : Tree) (rises : rising t ≡ true) (f : ℕ) → own_of f (told (edge_from t f)) ≡ option_map (λ (e : Edge). told_edge (f, e)) (get t f)
own_edge t rises f = go (get t f) refl
  where
    apart : (m : Option (ℕ × Edge)) → edge_from t f ≡ m → get t f ≡ None → own_of f (told m) ≡ None
    apart None q g = refl
    apart (Some x) q g =
        rw (ne_eqb x.0 f (λ e. none_some (sym g ∙ ap (get t) (sym e) ∙ (reads_through.held t f x q).1)))

    go : (g : Option Edge) → get t f ≡ g → own_of f (told (edge_from t f)) ≡ option_map (λ (e : Edge). told_edge (f, e)) g
    go None g = apart (edge_from t f) refl g
    go (Some e) g = ap (λ (m : Option (ℕ × Edge)). own_of f (told m)) (reads_through.own t f e rises g) ∙ rw (eq-eqb f f refl)
