-- The lines of the hops from a frame up to another, written one hop at a time.
use Rattle.std.proofs.Common.{◌≡◌, ℕ, ◌<◌, eqb, List, [], ◌∷◌, ◌++◌, length, sym, refl, ap, ◌∙◌, arith}
use Rattle.std.specs.Prelude.{Option, None, Some, option_map}
use Rattle.buffer.specs.Map.{get}
use Rattle.buffer.proofs.Cases.{none_some}
use Rattle.buffer.proofs.Maps.{rising_is}
use Rattle.registry.specs.Tree.{Edge, Tree}
use Rattle.registry.specs.Store.{Store, tree_of}
use Rattle.registry.specs.Sound.{SoundStore}
use Rattle.registry.specs.Path.{Hop, chain, until, hops}
use Rattle.registry.proofs.Held.{tree_rises, tree_circles, circle_grounded, hops_end, hops_up, hops_root}
use Rattle.console.specs.Why.{told_line, hop_lines}
use Rattle.registry.specs.NextEdge.{told_edge}
use Rattle.registry.specs.declared.checked.Edge.{Edge as Told}

-- the hops from f up to the frame top
abbrev pub hops_to : Tree → ℕ → ℕ → List Hop
hops_to t f top = hops t (until (eqb top) (chain t f))

-- a hop's line by what is told of its edge
abbrev pub told_hop : ℕ → Told → List (List ℕ)
told_hop i y = told_line i y.child y.parent y.count y.coverage

module _ (s : Store) (ok : SoundStore s) (i f top : ℕ) where
  -- at the frame itself no hop is left
  pub end_lines : f ≡ top → hop_lines i (hops_to (tree_of s) f top) ≡ []
  unfolding hop_lines
  end_lines e = rw (e, hops_end (tree_of s) top) refl

  -- nor at a root
  pub root_lines : None ≡ option_map (λ e. told_edge (f, e)) (get (tree_of s) f) → hop_lines i (hops_to (tree_of s) f top) ≡ []
  unfolding hop_lines
  root_lines w = ap (hop_lines i) (go (get (tree_of s) f) refl w)
    where
      go : (g : Option Edge) → get (tree_of s) f ≡ g → None ≡ option_map (λ (e : Edge). told_edge (f, e)) g → hops_to (tree_of s) f top ≡ []
      go None q w = hops_root (tree_of s) (circle_grounded (tree_of s) ((rising_is (tree_of s)).0 (tree_rises s ok)) (tree_circles s ok)) f top q
      go (Some e) q w = absurd (none_some w)

  -- an edge that is told is the first hop
  module _ (y : Told) (w : Some y ≡ option_map (λ e. told_edge (f, e)) (get (tree_of s) f)) (ne : f ≡ top → ⊥) where
    hop_up : (e : Edge) × (hops_to (tree_of s) f top ≡ (f, e) ∷ hops_to (tree_of s) y.parent top) × (y ≡ told_edge (f, e))
    hop_up = go (get (tree_of s) f) refl w
      where
        go : (g : Option Edge) → get (tree_of s) f ≡ g → Some y ≡ option_map (λ (e : Edge). told_edge (f, e)) g
            → (e : Edge) × (hops_to (tree_of s) f top ≡ (f, e) ∷ hops_to (tree_of s) y.parent top) × (y ≡ told_edge (f, e))
        go None q w = absurd (none_some (sym w))
        go (Some e) q w =
            let z : y ≡ told_edge (f, e) = cc w in (
              e,
              rw z (hops_up (tree_of s) (circle_grounded (tree_of s) ((rising_is (tree_of s)).0 (tree_rises s ok)) (tree_circles s ok)) f top e q (λ x. ne (sym x))),
              z,
            )

    -- fewer are left behind it
    pub fewer_hops : length (hops_to (tree_of s) y.parent top) < length (hops_to (tree_of s) f top)
    fewer_hops = rw hop_up.1 (omega arith)

    -- and their lines come behind its line
    pub next_lines : hop_lines i (hops_to (tree_of s) f top) ≡ told_hop i y ++ hop_lines i (hops_to (tree_of s) y.parent top)
    unfolding hop_lines
    next_lines = ap (hop_lines i) hop_up.1 ∙ ap (λ (z : Told). told_hop i z ++ hop_lines i (hops_to (tree_of s) y.parent top)) (sym hop_up.2)
