-- The pose that a lookup answers is finite, and so is what every query and every fold on its way comes to.
use Prim.Native.Nat.{ℕ}
use mathlib.Core.Path.{◌≡◌, refl, sym, subst⁻¹, ◌∙◌}
use mathlib.Core.Bool.{true, not}
use Rattle.std.specs.Prelude.{Option, None, Some}
use mathlib.Core.List.{List, [], ◌∷◌, ◌++◌}
use native.Mathlib.Omega.{arith}
use borrow.Author.Tests.{not-false}
use Rattle.time.specs.Reply.{nothing, frame, answer, ◌then◌}
use Rattle.time.proofs.Replies.{refusal_answer, answer_in, refuse_answered, then_answered}
use Rattle.geometry.specs.declared.isometry.Isometry.{Isometry}
use Rattle.geometry.specs.Isometry.{identity, is_finite, finite, product, inverse}
use Rattle.geometry.proofs.Finites.{finite_answer, finite_passes, overflow_stays}
use Rattle.buffer.specs.Samples.{served, query}
use Rattle.buffer.proofs.Cases.{both}
use Rattle.registry.specs.Tree.{Tree}
use Rattle.registry.specs.Store.{sized, tree_of}
use Rattle.registry.specs.Sound.{sound}
use Rattle.registry.specs.Answers.{pose}
use Rattle.registry.specs.Path.{Hop, chain, hops, side, connected, known, ask, onto, fold, joined, combined, lookup_along, lookup_apart, lookup}
use Rattle.registry.specs.PathLaws.{Every, TwoKnown}
use Rattle.registry.specs.Calls.{on_tree, lookup_of}
use Rattle.registry.specs.Overflow.{LookupFinite, Answered, finite_side, FiniteAlong, LookupFiniteThroughout}
use Rattle.registry.proofs.paths.Paths.{ask_along, ask_apart}
use Rattle.registry.proofs.lookup.Joining.{tested, empty_sides}

-- ---- a side

-- its product is finite, if it has one
abbrev Finite : Option Isometry → Type 0
Finite None = Unit {0}
Finite (Some p) = is_finite p ≡ true

side_answered : (o : Option Isometry) → Finite o → Answered (finite_side o)
side_answered None h = (None, refl)
side_answered (Some p) h = (Some p, rw (finite_passes p h))

onto_finite : (p : Isometry) (below : Option Isometry) → is_finite (onto p below) ≡ true → (is_finite p ≡ true) × Finite below
onto_finite p None h = (h, tt)
onto_finite p (Some q) h = overflow_stays.products p q h

module _ (i : ℕ) where
  -- of the hops above what is below
  record Along (below : Option Isometry) (hs : List Hop) : Type 0 where
    start : Finite below
    queries : Every (λ h. Answered (query h.0 h.1.kind h.1.samples i)) hs
    folds : (before after : List Hop) → hs ≡ before ++ after → Answered (fold below before i then finite_side)

  query_answered : (h : Hop) (p : Isometry) → served h.0 h.1.kind h.1.samples i ≡ answer p → is_finite p ≡ true
      → Answered (query h.0 h.1.kind h.1.samples i)
  unfolding query
  query_answered h p s f = (p, rw s (finite_passes p f))

  -- where their fold is finite
  along : (below : Option Isometry) (hs : List Hop) (all : Option Isometry) → fold below hs i ≡ answer all → Finite all → Along below hs
  along below [] all e f =
      let here : Finite below = subst⁻¹ Finite (answer_in e) f in
      record { start = here; queries = tt; folds = none_left here }
    where
      none_left : Finite below → (before after : List Hop) → [] ≡ before ++ after → Answered (fold below before i then finite_side)
      none_left here [] after z = side_answered below here
      none_left here (x ∷ before) after z = absurd (let w : ◌≡◌ {A = ℕ} 0 1 = cc in omega arith)
  along below (h ∷ hs) all e f =
      let (p, s, rest) = then_answered (served h.0 h.1.kind h.1.samples i) (λ p. fold (Some (onto p below)) hs i) all e in
      let above = along (Some (onto p below)) hs all rest f in
      let (here, under) = onto_finite p below above.start in
      record { start = under; queries = (query_answered h p s here, above.queries); folds = some_left p s under above.folds }
    where
      some_left : (p : Isometry) → served h.0 h.1.kind h.1.samples i ≡ answer p → Finite below
          → ((before after : List Hop) → hs ≡ before ++ after → Answered (fold (Some (onto p below)) before i then finite_side))
          → (before after : List Hop) → h ∷ hs ≡ before ++ after → Answered (fold below before i then finite_side)
      some_left p s under folds [] after z = side_answered below under
      some_left p s under folds (x ∷ before) after z =
          let same : h ≡ x = cc in
          let left : hs ≡ before ++ after = cc in
          rw (← same, s) (folds before after left)

-- ---- two sides

joined_finite : (a b : Option Isometry) (out : Isometry) → joined a b ≡ answer out → is_finite out ≡ true → Finite a × Finite b
joined_finite None None out e h = (tt, tt)
joined_finite None (Some y) out e h = (tt, subst⁻¹ (λ (p : Isometry). is_finite p ≡ true) (answer_in e) h)
joined_finite (Some x) None out e h = (overflow_stays.inverses x out e, tt)
joined_finite (Some x) (Some y) out e h =
    let (back, inverted, z) = then_answered (inverse x) (λ back. answer (product back y)) out e in
    let (first, second) = overflow_stays.products back y (subst⁻¹ (λ (p : Isometry). is_finite p ≡ true) (answer_in z) h) in
    (overflow_stays.inverses x back inverted, second)

combined_finite : (a b : Option Isometry) (p : Isometry) → combined a b ≡ answer (pose p) → (is_finite p ≡ true) × (Finite a × Finite b)
combined_finite a b p h =
    let (out, e, z) = then_answered (joined a b) tested (pose p) h in
    let (q, f, w) = then_answered (finite out) (λ q. answer (pose q)) (pose p) z in
    let (same, good) = finite_answer out q f in
    let named : q ≡ p = cc in
    (rw (← named) good, joined_finite a b out e (rw same good))

-- ---- a lookup

module _ (t : Tree) (f g i : ℕ) (p : Isometry) (h : lookup t f g i ≡ answer (pose p)) where
  abbrev A : List Hop
  A = hops t (side t f g)

  abbrev B : List Hop
  B = hops t (side t g f)

  on_path : lookup_along i A B ≡ answer (pose p)
  unfolding lookup ask
  on_path =
      let (k, rest) = refuse_answered (not (known t f)) 9 (frame f) _ (pose p) h in
      let (l, more) = refuse_answered (not (known t g)) 9 (frame g) _ (pose p) rest in
      let two : TwoKnown t f g = record { target = not-false (known t f) k; source = not-false (known t g) l } in
      both (connected t f g)
      (λ m. sym (ask_along (pose identity) (lookup_along i) (lookup_apart i) t f g two empty_sides m) ∙ h)
      (λ m.
      let (a, x, y) = then_answered (fold None (hops t (chain t f)) i) _ (pose p) (sym (ask_apart (pose identity) (lookup_along i) (lookup_apart i) t f g two m) ∙ h) in
      let (b, u, v) = then_answered (fold None (hops t (chain t g)) i) _ (pose p) y in
      absurd (refusal_answer v))

  lookup_finite_lem : (is_finite p ≡ true) × (FiniteAlong i A × FiniteAlong i B)
  lookup_finite_lem =
      let (a, x, y) = then_answered (fold None A i) _ (pose p) on_path in
      let (b, u, v) = then_answered (fold None B i) (combined a) (pose p) y in
      let (good, sides) = combined_finite a b p v in
      let target = along i None A a x sides.0 in
      let source = along i None B b u sides.1 in
      (good, (record { queries = target.queries; folds = target.folds }, record { queries = source.queries; folds = source.folds }))

pub lookup_finite_throughout : LookupFiniteThroughout
lookup_finite_throughout t f g i p h = (lookup_finite_lem t f g i p h).1

pub lookup_finite : LookupFinite
unfolding lookup_of on_tree
lookup_finite s f g i p h =
    let (sizes, rest) = refuse_answered (not (sized s)) 1 nothing _ (pose p) h in
    let (rules, found) = refuse_answered (not (sound s)) 2 nothing _ (pose p) rest in
    (lookup_finite_lem (tree_of s) f g i p found).0
