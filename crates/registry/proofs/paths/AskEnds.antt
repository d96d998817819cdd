-- What is asked of two frames, told from where the climbs from them end.
use Prim.Native.Nat.{ℕ}
use mathlib.Core.Path.{◌≡◌, refl, sym, ap, ◌∙◌}
use mathlib.Core.Bool.{Bool, true, false, cond}
use mathlib.Core.List.{List, [], ◌∷◌}
use lib.Dec.{eqb}
use borrow.Author.Tests.{eq-eqb, ne_eqb}
use Rattle.std.specs.Prelude.{Ok, Err}
use Rattle.time.specs.Reply.{Reply, answer, refusal, frame}
use Rattle.buffer.proofs.Cases.{both, false_true}
use Rattle.registry.specs.declared.error.RegistryError.{RegistryError}
use Rattle.registry.specs.declared.error.RegistryError.TheVariants.{UnknownFrame}
use Rattle.registry.specs.Tree.{Tree, member}
use Rattle.registry.specs.Answers.{Value}
use Rattle.registry.specs.Path.{Hop, chain, until, any, side, connected, hops, known, ask}
use Rattle.registry.specs.paths.Walks.{hops_to, known_frames, ask_known}
use Rattle.registry.proofs.paths.Climbing.{Grounded}
use Rattle.registry.proofs.paths.Paths.{connected_sym}
use Rattle.registry.proofs.paths.ClimbEnds.{EndAt, ends_meet, hops_end_at}

-- ---- without a path

until_none : (p : ℕ → Bool) (xs : List ℕ) → any p xs ≡ false → until p xs ≡ xs
until_none p [] h = refl
until_none p (x ∷ xs) h =
    both (p x)
    (λ e. absurd (false_true (sym (rw e at h))))
    (λ e. rw e (ap {B = List ℕ} (λ r. x ∷ r) (until_none p xs (rw e at h))))

side_apart : (t : Tree) (f g : ℕ) → connected t f g ≡ false → side t f g ≡ chain t f
unfolding connected side
side_apart t f g h = until_none (λ x. member x (chain t g)) (chain t f) h

-- ---- the questions

-- what `known_frames` says of a question
module _ (t : Tree) (f g : ℕ) where
  pub known_both : Ok tt ≡ known_frames t f g → (known t f ≡ true) × (known t g ≡ true)
  known_both e =
      both (known t f)
      (λ k. both (known t g)
      (λ m. (k, m))
      (λ m. let z : Ok tt ≡ Err (UnknownFrame g) = e ∙ rw (k, m) in cc))
      (λ k. let z : Ok tt ≡ Err (UnknownFrame f) = e ∙ rw k in cc)

  -- the first frame that is unknown is named, with 9
  pub ask_unknown : (e : RegistryError) (same : Value) (along apart : List Hop → List Hop → Reply Value) → Err e ≡ known_frames t f g
      → (x : ℕ) × (e ≡ UnknownFrame x) × (refusal 9 (frame x) ≡ ask t f g same along apart)
  unfolding ask
  ask_unknown e same along apart q =
      both (known t f)
      (λ k. both (known t g)
      (λ m. let z : Err e ≡ Ok tt = q ∙ rw (k, m) in cc)
      (λ m. let z : Err e ≡ Err (UnknownFrame g) = q ∙ rw (k, m) in (g, (let y = z in cc), sym (rw (k, m)))))
      (λ k. let z : Err e ≡ Err (UnknownFrame f) = q ∙ rw k in (f, (let y = z in cc), sym (rw k)))

  pub ask_same : (same : Value) (along apart : List Hop → List Hop → Reply Value) → Ok tt ≡ known_frames t f g → f ≡ g
      → answer same ≡ ask t f g same along apart
  unfolding ask
  ask_same same along apart q e = let k = known_both q in sym (rw (k.0, k.1, eq-eqb f g e))

  pub ask_apart : (same : Value) (along apart : List Hop → List Hop → Reply Value) → Ok tt ≡ known_frames t f g → (f ≡ g → ⊥)
      → ask_known t f g along apart ≡ ask t f g same along apart
  unfolding ask
  ask_apart same along apart q ne = let k = known_both q in sym (rw (k.0, k.1, ne_eqb f g ne))

module _ (along apart : List Hop → List Hop → Reply Value) (t : Tree) (f g : ℕ) where
  -- without a path the sides are the climbs to the roots
  by_sides : ask_known t f g along apart
      ≡ cond (connected t f g) (along (hops t (side t f g)) (hops t (side t g f))) (apart (hops t (side t f g)) (hops t (side t g f)))
  by_sides =
      both (connected t f g)
      (λ e. rw e)
      (λ e.
      let back : connected t g f ≡ false = both (connected t g f) (λ h. absurd (false_true (sym e ∙ connected_sym t g f h))) (λ h. h) in
      rw e (λ i. apart (hops t (sym (side_apart t f g e) i)) (hops t (sym (side_apart t g f back) i))))

  pub ask_ends : Grounded t → (x y : ℕ) → EndAt t f g x y
      → ask_known t f g along apart ≡ cond (eqb x y) (along (hops_to t f x) (hops_to t g y)) (apart (hops_to t f x) (hops_to t g y))
  ask_ends gr x y ends =
      let p = sym ends.0 in
      let q = sym ends.1 in
      let a = sym (hops_end_at t gr f g) ∙ ap (hops_to t f) p in
      let b = sym (hops_end_at t gr g f) ∙ ap (hops_to t g) q in
      let meets = ends_meet t gr f g ∙ (λ i. eqb (p i) (q i)) in
      by_sides ∙ λ i. cond (meets i) (along (a i) (b i)) (apart (a i) (b i))
