-- A hop is served inside its range; the first hop at fault, by its place; and a test that every hop passes.
use Prim.Native.Nat.{ℕ}
use mathlib.Core.Path.{◌≡◌, refl, ap, ◌∙◌}
use mathlib.Core.Logic.{◌↔◌}
use mathlib.Core.Bool.{Bool, true, false}
use Rattle.std.specs.Prelude.{None, Some}
use mathlib.Core.List.{List, [], ◌∷◌, ◌++◌}
use lib.Dec.{leb}
use borrow.Author.Tests.{leb-true, le-leb}
use Rattle.time.specs.Reply.{hop}
use Rattle.buffer.specs.declared.coverage.Coverage.{Coverage}
use Rattle.buffer.specs.declared.coverage.Coverage.TheVariants.{AllTime, Range, Empty}
use Rattle.buffer.specs.Map.{all}
use Rattle.buffer.specs.Samples.{range}
use Rattle.buffer.proofs.Cases.{both, false_true, and_both, and_left, and_right}
use Rattle.registry.specs.Path.{Hop}
use Rattle.registry.specs.PathLaws.{cover, Every, Ranged, Placed}
use Rattle.registry.specs.Order.{covers, first_hop}
use Rattle.registry.proofs.common_time.Spans.{Between}

-- ---- a hop is served at the instants inside its range

module _ (i : ℕ) where
  pub covers_inside : (c : Coverage) → Ranged (Between i) c → covers c i ≡ true
  covers_inside AllTime k = refl
  covers_inside (Range start end) k = and_both (leb start i) (leb i end) (le-leb start i k.0) (le-leb i end k.1)
  covers_inside Empty k = absurd k

  pub inside_covers : (c : Coverage) → covers c i ≡ true → Ranged (Between i) c
  inside_covers AllTime e = tt
  inside_covers (Range start end) e =
      (leb-true start i (and_left (leb start i) (leb i end) e), leb-true i end (and_right (leb start i) (leb i end) e))
  inside_covers Empty e = absurd (false_true e)

  pub outside_covers : (c : Coverage) → (Ranged (Between i) c → ⊥) → covers c i ≡ false
  outside_covers c n = both (covers c i) (λ e. absurd (n (inside_covers c e))) (λ e. e)

-- ---- the first hop at fault, where hops that have P are not

module _ (fault : Coverage → Bool) (P : Hop → Type 0) (free : (h : Hop) → P h → fault (cover h) ≡ false) where
  pub first_none : (hs : List Hop) → Every P hs → first_hop fault hs ≡ None
  first_none [] k = refl
  first_none (h ∷ hs) k = rw (free h k.0) (first_none hs k.1)

  first_past : (before : List Hop) (h : Hop) (after : List Hop) → Every P before → fault (cover h) ≡ true
      → first_hop fault (before ++ (h ∷ after)) ≡ Some (hop h.0 (range h.1.samples))
  first_past [] h after k e = rw e
  first_past (x ∷ before) h after k e = rw (free x k.0) (first_past before h after k.1 e)

  pub first_placed : (Q : Hop → Type 0) (h : Hop) (hs : List Hop) → Placed P h Q hs → fault (cover h) ≡ true
      → first_hop fault hs ≡ Some (hop h.0 (range h.1.samples))
  first_placed Q h hs p e = ap (first_hop fault) p.place ∙ first_past p.before h p.after p.earlier e

-- ---- a test that every hop passes

module _ (test : Hop → Bool) where
  pub every_passes : (hs : List Hop) → (all test hs ≡ true) ↔ Every (λ h. test h ≡ true) hs
  every_passes hs = (there hs, back hs)
    where
      there : (hs : List Hop) → all test hs ≡ true → Every (λ h. test h ≡ true) hs
      there [] e = tt
      there (h ∷ hs) e = (and_left (test h) (all test hs) e, there hs (and_right (test h) (all test hs) e))

      back : (hs : List Hop) → Every (λ h. test h ≡ true) hs → all test hs ≡ true
      back [] k = refl
      back (h ∷ hs) k = and_both (test h) (all test hs) k.0 (back hs k.1)
