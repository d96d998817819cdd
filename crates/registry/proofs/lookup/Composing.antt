-- The poses of a side, composed while climbing: what is left of the climb decides.
use Prim.Native.Nat.{ℕ}
use mathlib.Core.Path.{◌≡◌, refl, sym, ap, ◌∙◌}
use Rattle.std.specs.Prelude.{Option, None, Some, option_map}
use mathlib.Core.List.{List}
use Rattle.time.specs.Reply.{Reply, answer, refusal, ◌then◌}
use Rattle.geometry.specs.declared.isometry.Isometry.{Isometry}
use Rattle.buffer.specs.Map.{get}
use Rattle.buffer.specs.Samples.{served}
use Rattle.buffer.proofs.Cases.{none_some}
use Rattle.registry.specs.Tree.{Tree}
use Rattle.registry.specs.Path.{Hop, onto, fold}
use Rattle.registry.specs.paths.Edges.{edge_pose}
use Rattle.registry.specs.paths.Walks.{hops_to}
use Rattle.registry.proofs.paths.Climbing.{edge_or, Grounded}
use Rattle.registry.proofs.paths.SideHops.{ChildOf, hops_up, hops_root}

-- ---- what the pose of a frame tells of its edge

abbrev parent_by : Reply (Option (Isometry × ℕ)) → Option ℕ
parent_by (answer x) = option_map (λ y. y.1) x
parent_by (refusal k c) = None

module _ (t : Tree) (f i : ℕ) where
  pub pose_parent : (x : Isometry) (p : ℕ) → answer (Some (x, p)) ≡ edge_pose t f i → ChildOf t f p
  pose_parent x p e =
      edge_or (get t f)
      (λ q. absurd (none_some {a = p} (sym (ap parent_by e ∙ rw q))))
      (λ d q. (d, q, by d.parent (served f d.kind d.samples i) (ap parent_by e ∙ rw q)))
    where
      by : (k : ℕ) (r : Reply Isometry) → Some p ≡ parent_by (r then λ y. answer (Some (y, k))) → k ≡ p
      by k (answer y) z = cc
      by k (refusal n c) z = cc

-- ---- the side from a frame, by its pose

abbrev pub fold_on : Tree → (top i : ℕ) → Option Isometry → Option (Isometry × ℕ) → Reply (Option Isometry)
fold_on t top i below None = answer below
fold_on t top i below (Some x) = fold (Some (onto x.0 below)) (hops_to t x.1 top) i

fold_by : (t : Tree) → Grounded t → (f top i : ℕ) (below : Option Isometry) → (f ≡ top → ⊥)
    → fold below (hops_to t f top) i ≡ (edge_pose t f i then fold_on t top i below)
fold_by t gr f top i below ne =
    edge_or (get t f)
    (λ q. ap (λ (hs : List Hop). fold below hs i) (hops_root t gr f top q) ∙ sym (rw q))
    (λ e q.
    ap (λ (hs : List Hop). fold below hs i) (hops_up t gr f top e q (λ z. ne (sym z)))
    ∙ sym (rw q (by (served f e.kind e.samples i) e.parent)))
  where
    by : (r : Reply Isometry) (p : ℕ)
        → ((r then λ x. answer (Some (x, p))) then fold_on t top i below) ≡ (r then λ x. fold (Some (onto x below)) (hops_to t p top) i)
    by (answer x) p = refl
    by (refusal k c) p = refl

-- ---- the climb

-- the side from the frame is what is below, and then the side from `at`
abbrev pub Composing : Tree → (frame top i at : ℕ) → Option Isometry → Type 0
Composing t frame top i at below = fold None (hops_to t frame top) i ≡ fold below (hops_to t at top) i

module _ (t : Tree) (frame top i at : ℕ) (below : Option Isometry) (w : Composing t frame top i at below) where
  -- of `at` r was read
  pub composing_hop : Grounded t → (at ≡ top → ⊥) → (r : Reply (Option (Isometry × ℕ))) → r ≡ edge_pose t at i
      → fold None (hops_to t frame top) i ≡ (r then fold_on t top i below)
  composing_hop gr ne r e = rw e (w ∙ fold_by t gr at top i below ne)
