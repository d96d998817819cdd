-- What a lookup can be refused with, and which frame 9 names.
use Prim.Native.Nat.{ℕ}
use mathlib.Core.Path.{◌≡◌, refl}
use mathlib.Core.Logic.{◌↔◌, inl, inr}
use mathlib.Core.Bool.{Bool, true}
use Rattle.std.specs.Prelude.{Option, None, Some}
use mathlib.Core.List.{List, [], ◌∷◌, ◌++◌}
use lib.Dec.{eqb}
use Rattle.time.specs.Reply.{Carried, nothing, frame, hop, Reply, refusal, ◌then◌}
use Rattle.geometry.specs.declared.isometry.Isometry.{Isometry}
use Rattle.geometry.specs.Isometry.{identity}
use Rattle.buffer.specs.Map.{rising}
use Rattle.buffer.specs.Samples.{range}
use Rattle.buffer.proofs.Cases.{both}
use Rattle.buffer.proofs.Maps.{rising_is}
use Rattle.buffer.proofs.ServedLaws.{serves, served_answers, served_refuses}
use Rattle.registry.specs.Tree.{Tree, member}
use Rattle.registry.specs.Answers.{Value, pose, static}
use Rattle.registry.specs.Path.{Hop, chain, hops, side, connected, known, ask, combined, lookup_along, lookup_apart, lookup, spans, meet, common_time}
use Rattle.registry.specs.PathLaws.{Every, Rises, LookupRefusals, LookupFromAbove, Unknown, UnknownFrame}
use Rattle.registry.specs.paths.Walks.{ask_known}
use Rattle.registry.proofs.paths.Paths.{known_connected, ask_along, hops_pass, every_map}
use Rattle.registry.proofs.lookup.Joining.{empty_sides}
use Rattle.registry.proofs.Fits.{Fits, answered, refused, Only, other, on_cond, on_then, refusal_fits, never, finite_only, ask_fits, Serves, fold_only, lookup_known, common_time_known}

-- every hop of such a tree is refused with 11 alone
module _ (R : ℕ → Carried → Bool) (unserved : (child : ℕ) (range : Option (ℕ × ℕ)) → R 11 (hop child range) ≡ true) (i : ℕ) where
  hop_serves : (h : Hop) → rising h.1.samples ≡ true → Serves R i h
  hop_serves h r =
      let m = h.1.samples in
      let k = h.1.kind in
      let up = (rising_is m).0 r in
      both (serves k m i)
      (λ e. rw (served_answers h.0 k m i up e).1 (answered refl))
      (λ e. rw (served_refuses h.0 k m i up e) (refused (unserved h.0 (range m))))

  hops_serve : (t : Tree) → Rises t → (xs : List ℕ) → Every (Serves R i) (hops t xs)
  hops_serve t r xs = every_map hop_serves (hops t xs) (hops_pass (λ x. rising x.1.samples) t r.children r.instants xs)

-- the numbers of document 01's order for a lookup
abbrev of_lookup : ℕ → Carried → Bool
of_lookup k c = member k (9 ∷ 11 ∷ 10 ∷ 13 ∷ 14 ∷ 3 ∷ [])

pub lookup_refusals : LookupRefusals
unfolding lookup
lookup_refusals t r f g i k c e =
    refusal_fits
    (ask_fits t f g (pose identity) (lookup_along i) (lookup_apart i) refl (λ x. refl)
    (lookup_known of_lookup i refl refl refl refl t (hops_serve of_lookup (λ child range. refl) i t r) f g))
    e

-- ---- from above

abbrev from_above : ℕ → Carried → Bool
from_above k c = member k (11 ∷ 3 ∷ [])

above_connected : (t : Tree) (f g : ℕ) → member f (chain t g) ≡ true → connected t f g ≡ true
unfolding connected
above_connected t f g m = rw m

above_side : (t : Tree) (f g : ℕ) → member f (chain t g) ≡ true → side t f g ≡ []
unfolding side
above_side t f g m = rw m

uninverted : (i : ℕ) (b : List Hop) → Every (Serves from_above i) b → Only from_above (lookup_along i [] b)
uninverted i b s = on_then _ (fold_only from_above i None b s) kept
  where
    kept : (y : Option Isometry) → Only from_above (combined None y)
    kept None = on_then _ (finite_only from_above refl identity) (λ p. answered refl)
    kept (Some x) = on_then _ (finite_only from_above refl x) (λ p. answered refl)

pub lookup_from_above : LookupFromAbove
unfolding lookup
lookup_from_above t r f g i k c n m e =
    let meet = above_connected t f g m in
    refusal_fits {R = from_above} {Q = λ v. true}
    (rw (ask_along (pose identity) (lookup_along i) (lookup_apart i) t f g (known_connected t f g n meet) empty_sides meet, above_side t f g m)
    (uninverted i (hops t (side t g f)) (hops_serve from_above (λ child range. refl) i t r (side t g f))))
    e

-- ---- 9

module _ {Q : Value → Bool} (t : Tree) (f g x : ℕ) (same : Value) (along apart : List Hop → List Hop → Reply Value)
    (s : Q same ≡ true) (h : Fits (other 9) Q (ask_known t f g along apart)) where
  frame_in_lem : {y : ℕ} → ◌≡◌ {A = Reply Value} (refusal 9 (frame y)) (refusal 9 (frame x)) → x ≡ y
  frame_in_lem e = cc e

  ask_nine : (ask t f g same along apart ≡ refusal 9 (frame x)) ↔ Unknown t f g x
  unfolding ask
  ask_nine = (
    λ e.
        both (known t f)
        (λ p.
        both (known t g)
        (λ q. absurd (never (on_cond (eqb f g) (answered s) h) (rw (p, q) at e)))
        (λ q. inr (p, q, frame_in_lem (rw (p, q) at e))))
        (λ p. inl (p, frame_in_lem (rw p at e))),
    of_unknown,
  )
    where
      of_unknown : Unknown t f g x → ask t f g same along apart ≡ refusal 9 (frame x)
      of_unknown (inl w) = rw (w.0, w.1)
      of_unknown (inr w) = rw (w.0, w.1, w.2)

pub unknown_frame : UnknownFrame
unfolding lookup common_time
unknown_frame t r f g x = (
  λ i. ask_nine t f g x (pose identity) (lookup_along i) (lookup_apart i) refl
      (lookup_known (other 9) i refl refl refl refl t (hops_serve (other 9) (λ child range. refl) i t r) f g),
  ask_nine t f g x static (λ a b. spans (a ++ b) then meet) (λ a b. refusal 10 nothing) refl (common_time_known (other 9) (λ child range. refl) refl t f g),
)
