-- Where the climbs from two frames end: whichever lies deeper climbs, until they meet or are both at a root.
use Prim.Native.Nat.{ℕ, ◌-◌, ◌≤◌, ◌<◌}
use mathlib.Core.Path.{◌≡◌, sym, ap, ◌∙◌}
use mathlib.Core.Bool.{true}
use Rattle.std.specs.Prelude.{None, Some}
use native.Mathlib.Omega.{arith}
use lib.ListN.{length}
use lib.Dec.{eqb}
use Rattle.buffer.specs.Map.{get}
use Rattle.buffer.proofs.Cases.{both}
use Rattle.registry.specs.Tree.{Edge, Tree, ancestors, member}
use Rattle.registry.specs.Sound.{climb}
use Rattle.registry.specs.Path.{chain, climb_end}
use Rattle.registry.specs.paths.Walks.{steps_to_root}
use Rattle.registry.proofs.paths.Climbing.{edge_or, Grounded}
use Rattle.registry.proofs.paths.Ancestors.{ancestors_none, ancestors_some}
use Rattle.registry.proofs.paths.TreeWalks.{none_above}
use Rattle.registry.proofs.paths.ClimbEnds.{EndAt, climb_end_here, climb_end_same, climb_end_root, climb_end_up, climb_end_stays, climb_end_above, not_above}

module _ (t : Tree) (gr : Grounded t) where
  -- ---- the one that lies no higher goes up

  module _ (f g : ℕ) (ne : f ≡ g → ⊥) (l : length (ancestors t g) ≤ length (ancestors t f)) (deep : 0 < length (ancestors t f)) where
    -- it has a parent
    up : {C : Type 0} → ((e : Edge) → get t f ≡ Some e → C) → C
    up k = edge_or (get t f) (λ q. absurd (omega (arith, ap length (ancestors_none t gr f q)))) k

    depth_up : length (ancestors t (climb 1 t f)) ≡ length (ancestors t f) - 1
    depth_up = up (λ e q. rw q (omega (arith, ap length (ancestors_some t gr f e q))))

    up_climb_end : climb_end t (climb 1 t f) g ≡ climb_end t f g
    up_climb_end = up (λ e q. rw q (sym (climb_end_up t gr f g e q (not_above t gr f g ne l))))

    up_stays : climb_end t g (climb 1 t f) ≡ climb_end t g f
    up_stays = up (λ e q. rw q (sym (climb_end_stays t gr f g e q (not_above t gr f g ne l))))

  -- ---- one above the other, and two roots

  -- the climbs from f and from g, which is above f
  ends_above : (f g : ℕ) → member g (ancestors t f) ≡ true → (g ≡ climb_end t f g) × (g ≡ climb_end t g f)
  ends_above f g m =
      let on : member g (chain t f) ≡ true = both (eqb g f) (λ e. rw e) (λ e. rw e m) in
      (sym (climb_end_above t gr g f on), sym (climb_end_here t g f on))

  at_root : (f g : ℕ) → length (ancestors t f) ≤ 0 → f ≡ climb_end t f g
  at_root f g l =
      sym (climb_end_root t gr f g (edge_or (get t f) (λ q. q) (λ e q. absurd (omega (arith, ap length (ancestors_some t gr f e q))))))

  pub source_above : (f g : ℕ) → None ≡ steps_to_root t f g → EndAt t f g g g
  source_above f g m = ends_above f g (none_above t f g m)

  pub target_above : (f g : ℕ) → None ≡ steps_to_root t g f → EndAt t f g f f
  target_above f g m = let z = ends_above g f (none_above t g f m) in (z.1, z.0)

-- ---- the climbs from f₀ and g₀ have come to f and g, which have a and b frames above them

pub record Climbs (t : Tree) (f₀ g₀ f g a b : ℕ) : Type 0 where
  pub target : a ≡ length (ancestors t f)
  pub source : b ≡ length (ancestors t g)
  pub ends : EndAt t f₀ g₀ (climb_end t f g) (climb_end t g f)

turned : {t : Tree} {f₀ g₀ f g a b : ℕ} → Climbs t f₀ g₀ f g a b → Climbs t g₀ f₀ g f b a
turned w = record { target = w.source; source = w.target; ends = (w.ends.1, w.ends.0) }

module _ (t : Tree) (gr : Grounded t) (f₀ g₀ f g a b : ℕ) (w : Climbs t f₀ g₀ f g a b) where
  pub climbs_target : (f ≡ g → ⊥) → b ≤ a → 0 < a → (k : ℕ) → k ≡ climb 1 t f → Climbs t f₀ g₀ k g (a - 1) b
  climbs_target ne l d k step =
      let target = w.target in
      let source = w.source in
      let l : length (ancestors t g) ≤ length (ancestors t f) = omega arith in
      let deep : 0 < length (ancestors t f) = omega arith in
      rw step
      (record {
        target = omega (arith, depth_up t gr f g ne l deep);
        source = source;
        ends = (up_climb_end t gr f g ne l deep ∙ w.ends.0, up_stays t gr f g ne l deep ∙ w.ends.1);
      })

  pub climbs_meet_lem : f ≡ g → EndAt t f₀ g₀ f g
  climbs_meet_lem e = (
    sym (climb_end_same t f) ∙ ap (climb_end t f) e ∙ w.ends.0,
    sym (climb_end_same t g) ∙ ap (climb_end t g) (sym e) ∙ w.ends.1,
  )

  pub climbs_apart : a ≤ 0 → b ≤ 0 → EndAt t f₀ g₀ f g
  climbs_apart l k =
      let target = w.target in
      let source = w.source in
      (at_root t gr f g (omega arith) ∙ w.ends.0, at_root t gr g f (omega arith) ∙ w.ends.1)

pub climbs_source : (t : Tree) → Grounded t → (f₀ g₀ f g a b : ℕ) → Climbs t f₀ g₀ f g a b
    → (f ≡ g → ⊥) → a ≤ b → 0 < b → (k : ℕ) → k ≡ climb 1 t g → Climbs t f₀ g₀ f k a (b - 1)
climbs_source t gr f₀ g₀ f g a b w ne l d k step = turned (climbs_target t gr g₀ f₀ g f b a (turned w) (λ e. ne (sym e)) l d k step)
