-- What the steps of a lookup and of a latest common time can reply, by a test of answers and a test of refusals.
use Prim.Native.Nat.{ℕ}
use mathlib.Core.Path.{◌≡◌, refl}
use mathlib.Core.Bool.{Bool, true, false, not, cond}
use Rattle.std.specs.Prelude.{Option, None, Some}
use mathlib.Core.List.{List, [], ◌∷◌, ◌++◌}
use lib.Dec.{eqb, ltb}
use lib.Ieee.{lt}
use lib.Ieee.Scale.{finite}
use borrow.Author.Tests.{eq-eqb}
use Rattle.time.specs.Reply.{Carried, nothing, frame, hop, Reply, answer, refusal, refuse, ◌then◌}
use Rattle.geometry.specs.declared.isometry.Isometry.{Isometry}
use Rattle.geometry.specs.declared.quaternion.Quaternion.{Quaternion}
use Rattle.geometry.specs.Vector3 as vector
use Rattle.geometry.specs.Quaternion.{norm, epsilon, conjugate, minus_one, normalize, rotate_vector}
use Rattle.geometry.specs.Isometry.{is_finite, finite as finitePose, inverse, inverse_with_rotation}
use Rattle.buffer.specs.declared.coverage.Coverage.{Coverage}
use Rattle.buffer.specs.declared.coverage.Coverage.TheVariants.{AllTime, Range, Empty}
use Rattle.buffer.specs.Samples.{coverage, served}
use Rattle.buffer.proofs.Cases.{false_true}
use Rattle.registry.specs.Tree.{Tree}
use Rattle.registry.specs.Answers.{Value}
use Rattle.registry.specs.Path.{Hop, chain, hops, side, connected, known, ask, fold, onto, joined, combined, lookup_along, lookup_apart, Span, span_then, spans, earliest_end, latest_start, meet}
use Rattle.registry.specs.PathLaws.{Every}
use Rattle.registry.specs.Replies.{of_pose, of_time, answers}
use Rattle.registry.specs.paths.Walks.{ask_known}

-- ---- steps in order

-- an answer that passes Q, or a refusal that passes R
pub data Fits {A : Type 0} (R : ℕ → Carried → Bool) (Q : A → Bool) : Reply A → Type 0 where
  answered : {a : A} → Q a ≡ true → Fits R Q (answer a)
  refused : {k : ℕ} {c : Carried} → R k c ≡ true → Fits R Q (refusal k c)

-- any answer
abbrev pub Only : {A : Type 0} → (ℕ → Carried → Bool) → Reply A → Type 0
Only {A} R r = Fits R (λ (a : A). true) r

-- a refusal with any number but n
abbrev pub other : ℕ → ℕ → Carried → Bool
other n k c = not (eqb k n)

module _ {R : ℕ → Carried → Bool} {A : Type 0} {Q : A → Bool} where
  pub on_cond : (test : Bool) {r q : Reply A} → Fits R Q r → Fits R Q q → Fits R Q (cond test r q)
  on_cond true h n = h
  on_cond false h n = n

  pub on_refuse : (test : Bool) (k : ℕ) (c : Carried) {next : Reply A} → R k c ≡ true → Fits R Q next → Fits R Q (refuse test k c next)
  on_refuse test k c h n = on_cond test (refused h) n

  pub on_then : {B : Type 0} {r : Reply B} (next : B → Reply A) → Only R r → ((b : B) → Fits R Q (next b)) → Fits R Q (r then next)
  on_then next (answered h) n = n _
  on_then next (refused h) n = refused h

  pub refusal_fits : {r : Reply A} {k : ℕ} {c : Carried} → Fits R Q r → r ≡ refusal k c → R k c ≡ true
  refusal_fits {r} {k} {c} h e = of (rw e at h)
    where
      of : Fits R Q (refusal k c) → R k c ≡ true
      of (refused w) = w

pub never : {A : Type 0} {Q : A → Bool} {r : Reply A} {n : ℕ} {c : Carried} → Fits (other n) Q r → r ≡ refusal n c → ⊥
never {n = n} h e = false_true (rw (eq-eqb n n refl) at (refusal_fits h e))

-- ---- the test for 3, inverse and product

pub finite_only : (R : ℕ → Carried → Bool) → R 3 nothing ≡ true → (a : Isometry) → Only R (finitePose a)
unfolding finitePose
finite_only R far a = on_refuse (not (is_finite a)) 3 nothing far (answered refl)

module _ (R : ℕ → Carried → Bool) (infinite : R 13 nothing ≡ true) (short : R 14 nothing ≡ true) (far : R 3 nothing ≡ true) where
  normalize_only : (q : Quaternion) → Only R (normalize q)
  unfolding normalize
  normalize_only q = on_refuse (not (finite (norm q))) 13 nothing infinite (on_refuse (lt (norm q) epsilon) 14 nothing short (answered refl))

  inverse_with_rotation_only : (a : Isometry) (q : Quaternion) → Only R (inverse_with_rotation a q)
  unfolding inverse_with_rotation
  inverse_with_rotation_only a q = on_refuse (not (vector.is_finite (vector.scale minus_one (rotate_vector q a.translation)))) 3 nothing far (answered refl)

  pub inverse_only : (a : Isometry) → Only R (inverse a)
  unfolding inverse
  inverse_only a = on_then _ (normalize_only a.rotation) (λ q. inverse_with_rotation_only a (conjugate q))

  joined_only : (a b : Option Isometry) → Only R (joined a b)
  joined_only None None = answered refl
  joined_only None (Some y) = answered refl
  joined_only (Some x) None = inverse_only x
  joined_only (Some x) (Some y) = on_then _ (inverse_only x) (λ back. answered refl)

  pub combined_fits : (a b : Option Isometry) → Fits R (answers of_pose) (combined a b)
  combined_fits a b = on_then _ (joined_only a b) (λ out. on_then _ (finite_only R far out) (λ p. answered refl))

-- ---- the form of both questions

pub ask_fits : {R : ℕ → Carried → Bool} {Q : Value → Bool} (t : Tree) (f g : ℕ) (same : Value) (along apart : List Hop → List Hop → Reply Value)
    → Q same ≡ true → ((x : ℕ) → R 9 (frame x) ≡ true) → Fits R Q (ask_known t f g along apart) → Fits R Q (ask t f g same along apart)
unfolding ask
ask_fits t f g same along apart s unknown h =
    on_refuse (not (known t f)) 9 (frame f) (unknown f)
    (on_refuse (not (known t g)) 9 (frame g) (unknown g) (on_cond (eqb f g) (answered s) h))

-- ---- lookup

module _ (R : ℕ → Carried → Bool) (i : ℕ) where
  -- a hop that does not serve the instant is refused with what passes R
  abbrev pub Serves : Hop → Type 0
  Serves h = Only R (served h.0 h.1.kind h.1.samples i)

  pub fold_only : (below : Option Isometry) (hs : List Hop) → Every Serves hs → Only R (fold below hs i)
  fold_only below [] s = answered refl
  fold_only below (h ∷ hs) s = on_then _ s.0 (λ p. fold_only (Some (onto p below)) hs s.1)

  pub lookup_known : R 10 nothing ≡ true → R 13 nothing ≡ true → R 14 nothing ≡ true → R 3 nothing ≡ true
      → (t : Tree) → ((xs : List ℕ) → Every Serves (hops t xs)) → (f g : ℕ) → Fits R (answers of_pose) (ask_known t f g (lookup_along i) (lookup_apart i))
  lookup_known disconnected infinite short far t s f g =
      on_cond (connected t f g)
      (on_then _ (folded (side t f g)) (λ x. on_then _ (folded (side t g f)) (combined_fits R infinite short far x)))
      (on_then _ (folded (chain t f)) (λ x. on_then _ (folded (chain t g)) (λ y. refused disconnected)))
    where
      folded : (xs : List ℕ) → Only R (fold None (hops t xs) i)
      folded xs = fold_only None (hops t xs) (s xs)

-- ---- latest common time

module _ (R : ℕ → Carried → Bool) (uncommon : (child : ℕ) (range : Option (ℕ × ℕ)) → R 12 (hop child range) ≡ true) where
  span_only : (child : ℕ) (k : Coverage) {rest : Reply (List Span)} → Only R rest → Only R (span_then child k rest)
  span_only child AllTime h = h
  span_only child (Range start end) h = on_then _ h (λ xs. answered refl)
  span_only child Empty h = refused (uncommon child None)

  spans_only : (hs : List Hop) → Only R (spans hs)
  spans_only [] = answered refl
  spans_only (h ∷ hs) = span_only h.0 (coverage h.1.kind h.1.samples) (spans_only hs)

  meet_fits : (xs : List Span) → Fits R (answers of_time) (meet xs)
  meet_fits [] = answered refl
  meet_fits (x ∷ xs) =
      let late = latest_start x xs in
      on_refuse (ltb (earliest_end x.end xs) late.start) 12 _ (uncommon late.child (Some (late.start, late.end))) (answered refl)

  pub times_fit : (hs : List Hop) → Fits R (answers of_time) (spans hs then meet)
  times_fit hs = on_then meet (spans_only hs) meet_fits

  pub common_time_known : R 10 nothing ≡ true → (t : Tree) (f g : ℕ)
      → Fits R (answers of_time) (ask_known t f g (λ a b. spans (a ++ b) then meet) (λ a b. refusal 10 nothing))
  common_time_known disconnected t f g = on_cond (connected t f g) (times_fit (hops t (side t f g) ++ hops t (side t g f))) (refused disconnected)
