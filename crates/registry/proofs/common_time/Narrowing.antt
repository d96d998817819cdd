-- What the hops of a path have in common, narrowed while climbing: what is left of the climb decides.
use Prim.Native.Nat.{ℕ}
use mathlib.Core.Path.{◌≡◌, sym, ap, ◌∙◌}
use Rattle.std.specs.Prelude.{Option, None, Some, option_map}
use Rattle.time.specs.Reply.{Reply, answer, ◌then◌}
use Rattle.buffer.specs.declared.coverage.Coverage.{Coverage}
use Rattle.buffer.specs.Map.{get}
use Rattle.buffer.proofs.Cases.{none_some}
use Rattle.registry.specs.Tree.{Tree}
use Rattle.registry.specs.paths.Edges.{edge_coverage}
use Rattle.registry.specs.paths.Walks.{hops_to}
use Rattle.registry.specs.common_time.Spans.{CommonSpan, narrow_by, narrowed}
use Rattle.registry.proofs.paths.Climbing.{edge_or, Grounded}
use Rattle.registry.proofs.paths.SideHops.{ChildOf, hops_up, hops_root}

pub coverage_parent : (t : Tree) (f : ℕ) (c : Coverage) (p : ℕ) → Some (c, p) ≡ edge_coverage t f → ChildOf t f p
coverage_parent t f c p e =
    edge_or (get t f)
    (λ q. absurd (none_some {a = p} (sym (ap (option_map (λ x. x.1)) e ∙ rw q))))
    (λ d q. (d, q, (let z : Some p ≡ Some d.parent = ap (option_map (λ x. x.1)) e ∙ rw q in cc)))

-- ---- the hops from a frame, by its coverage

abbrev pub narrow_on : Tree → (f top : ℕ) → CommonSpan → Option (Coverage × ℕ) → Reply CommonSpan
narrow_on t f top d None = answer d
narrow_on t f top d (Some x) = narrow_by d f x.0 then λ e. narrowed e (hops_to t x.1 top)

narrowed_by : (t : Tree) → Grounded t → (f top : ℕ) (d : CommonSpan) → (f ≡ top → ⊥) → narrowed d (hops_to t f top) ≡ narrow_on t f top d (edge_coverage t f)
narrowed_by t gr f top d ne =
    edge_or (get t f)
    (λ q. ap (narrowed d) (hops_root t gr f top q) ∙ sym (rw q))
    (λ e q. ap (narrowed d) (hops_up t gr f top e q (λ z. ne (sym z))) ∙ sym (rw q))

-- ---- the climb

-- the hops from the frame narrow c as those from `at` narrow d
abbrev pub Narrowing : Tree → (frame top : ℕ) → CommonSpan → ℕ → CommonSpan → Type 0
Narrowing t frame top c at d = narrowed c (hops_to t frame top) ≡ narrowed d (hops_to t at top)

module _ (t : Tree) (frame top : ℕ) (c : CommonSpan) (at : ℕ) (d : CommonSpan) (w : Narrowing t frame top c at d) where
  -- of `at` r was read
  pub narrowing_hop : Grounded t → (at ≡ top → ⊥) → (r : Option (Coverage × ℕ)) → r ≡ edge_coverage t at → narrowed c (hops_to t frame top) ≡ narrow_on t at top d r
  narrowing_hop gr ne r e = rw e (w ∙ narrowed_by t gr at top d ne)
