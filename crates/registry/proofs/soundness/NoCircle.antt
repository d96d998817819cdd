-- "No circle" means that no frame is above itself, and climbs of any number of steps that is not below the rows decide it.
use Prim.Native.Nat.{ℕ}
use mathlib.Core.Path.{◌≡◌, refl}
use mathlib.Core.Bool.{Bool, true}
use Rattle.std.specs.Prelude.{Option, None, Some}
use lib.ListN.{length}
use Rattle.buffer.specs.Map.{all, get}
use Rattle.buffer.proofs.Maps.{Rising, rising_is}
use Rattle.buffer.proofs.Alls.{all_get}
use Rattle.registry.specs.Tree.{Edge, Tree, is_absent}
use Rattle.registry.specs.Sound as sound
use Rattle.registry.specs.Sound.{climb, sound}
use Rattle.registry.specs.Laws.{NoCircle}
use Rattle.registry.proofs.paths.Climbing.{edge_or, Ends, Grounded, ends_ranked, climb_none, ranked_apart, apart_grounded}

is_new : (o : Option Edge) → is_absent o ≡ true → o ≡ None
is_new None h = refl
is_new (Some e) h = cc

module _ (t : Tree) (r : Rising t) where
  -- the climb of n steps from the child of a row ends
  abbrev ends_in : ℕ → ℕ × Edge → Bool
  ends_in n x = is_absent (get t (climb n t x.0))

  ends_of : (n : ℕ) → all (ends_in n) t ≡ true → Ends n t
  ends_of n h f =
      edge_or (get t f)
      (λ q. rw (climb_none t n f q) q)
      (λ e q. is_new (get t (climb n t f)) ((all_get (ends_in n) t r).0 h f e q))

  of_ends : (n : ℕ) → Ends n t → all (ends_in n) t ≡ true
  of_ends n g = (all_get (ends_in n) t r).1 (λ f e q. rw (g f))

  pub circle_grounded : sound.no_circle t ≡ true → Grounded t
  unfolding sound.no_circle
  circle_grounded h = ends_of (length t) h

  pub grounded_circle : Grounded t → sound.no_circle t ≡ true
  unfolding sound.no_circle
  grounded_circle g = of_ends (length t) g

pub no_circle : NoCircle
no_circle t r =
    let rises = (rising_is t).0 r in (
      λ h. ranked_apart t _ (ends_ranked t (length t) (circle_grounded t rises h)),
      λ a. grounded_circle t rises (apart_grounded t a),
    )
