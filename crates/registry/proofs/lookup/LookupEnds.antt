-- A lookup, told from where the climbs from two frames end.
use Prim.Native.Nat.{ℕ}
use mathlib.Core.Path.{◌≡◌, refl, sym, ◌∙◌}
use mathlib.Core.Bool.{Bool, true, false, cond}
use Rattle.std.specs.Prelude.{Option, None}
use mathlib.Core.List.{List}
use lib.Dec.{eqb}
use borrow.Author.Tests.{eq-eqb, ne_eqb}
use Rattle.time.specs.Reply.{Reply, answer, refusal, nothing, ◌then◌}
use Rattle.geometry.specs.declared.isometry.Isometry.{Isometry}
use Rattle.registry.specs.Tree.{Tree}
use Rattle.registry.specs.Store.{Store, tree_of}
use Rattle.registry.specs.Sound.{SoundStore, no_circle}
use Rattle.registry.specs.Path.{Hop, fold, combined, lookup_along, lookup_apart}
use Rattle.registry.specs.paths.Edges.{OfTree}
use Rattle.registry.specs.paths.Walks.{hops_to, ask_known}
use Rattle.registry.proofs.paths.ClimbEnds.{EndAt}
use Rattle.registry.proofs.paths.AskEnds.{ask_ends}
use Rattle.registry.proofs.paths.SoundWalks.{sound_grounded, sound_ends}

-- both sides are folded before it is told whether they meet
fold_both : (meets : Bool) (i : ℕ) (a b : List Hop)
    → (fold None a i then λ p. fold None b i then λ q. cond meets (combined p q) (refusal 10 nothing))
    ≡ cond meets (lookup_along i a b) (lookup_apart i a b)
fold_both true i a b = refl
fold_both false i a b = refl

-- the climbs over the head of a sound store end at x and y
module _ (s : Store) (ok : SoundStore s) (f g x y i : ℕ) (ends : OfTree s.head (λ t. no_circle t ≡ true → EndAt t f g x y)) where
  abbrev t : Tree
  t = tree_of s

  pub lookup_ends : (a b : Reply (Option Isometry)) → a ≡ fold None (hops_to t f x) i → b ≡ fold None (hops_to t g y) i
      → (a then λ p. b then λ q. cond (eqb x y) (combined p q) (refusal 10 nothing)) ≡ ask_known t f g (lookup_along i) (lookup_apart i)
  lookup_ends a b p q =
      rw (p, q)
      (fold_both (eqb x y) i (hops_to t f x) (hops_to t g y)
      ∙ sym (ask_ends (lookup_along i) (lookup_apart i) t f g (sound_grounded s ok) x y (sound_ends s ok f g x y ends)))

  module _ (a b : Option Isometry) (p : answer a ≡ fold None (hops_to t f x) i) (q : answer b ≡ fold None (hops_to t g y) i) where
    pub lookup_apart_lem : (x ≡ y → ⊥) → refusal 10 nothing ≡ ask_known t f g (lookup_along i) (lookup_apart i)
    lookup_apart_lem ne = sym (rw (ne_eqb x y ne)) ∙ lookup_ends (answer a) (answer b) p q

    pub lookup_meets : x ≡ y → combined a b ≡ ask_known t f g (lookup_along i) (lookup_apart i)
    lookup_meets e = sym (rw (eq-eqb x y e)) ∙ lookup_ends (answer a) (answer b) p q
