-- Latest common time along a path is refused with 12 exactly where it is due, and with the hop that is named.
use Prim.Native.Nat.{ℕ, ◌≤◌, ◌<◌}
use mathlib.Core.Path.{◌≡◌, refl, subst}
use mathlib.Core.Bool.{true, false, not}
use Rattle.std.specs.Prelude.{None, Some}
use mathlib.Core.List.{List, [], ◌∷◌}
use native.Mathlib.Omega.{arith}
use lib.Dec.{leb}
use borrow.Author.Tests.{leb-true, le-leb}
use Rattle.time.specs.Reply.{Reply, hop, ◌then◌}
use Rattle.time.specs.Order as order
use Rattle.buffer.specs.declared.coverage.Coverage.{Coverage}
use Rattle.buffer.specs.declared.coverage.Coverage.TheVariants.{AllTime, Range, Empty}
use Rattle.buffer.specs.Map.{all}
use Rattle.buffer.specs.Samples.{range}
use Rattle.buffer.proofs.Cases.{both, and_both, and_left, and_right}
use Rattle.registry.specs.Answers.{Value}
use Rattle.registry.specs.Path.{Hop, spans, meet}
use Rattle.registry.specs.PathLaws.{cover, Every, Ranged, Inside, InsideEvery, Placed, Blamed, empty, latest}
use Rattle.registry.specs.Order.{covers, is_empty, starts_by, too_late, no_common_due}
use Rattle.registry.proofs.paths.Paths.{every_here, every_map, placed_every}
use Rattle.registry.proofs.common_time.Spans.{Between}
use Rattle.registry.proofs.common_time.CommonTimes.{Replied, all_static, greatest, refused, replied, static_inside}
use Rattle.registry.proofs.orders.FirstHops.{inside_covers, first_none, first_placed, every_passes}

-- a hop that has a range, or is static, is not empty
ranged_filled : (P : ℕ → ℕ → Type 0) (c : Coverage) → Ranged P c → is_empty c ≡ false
ranged_filled P AllTime k = refl
ranged_filled P (Range start end) k = refl
ranged_filled P Empty k = absurd k

-- ---- an instant that is inside every range: nothing is due

-- an instant no later than i by which every hop has started is inside every range too
module _ (i start : ℕ) (l : start ≤ i) where
  started_covers : (c : Coverage) → Ranged (Between i) c → starts_by start c ≡ true → covers c start ≡ true
  started_covers AllTime k e = refl
  started_covers (Range s e) k b = and_both (leb s start) (leb start e) b (le-leb start e (let u = k.1 in omega arith))
  started_covers Empty k e = absurd k

  all_covers : (hs : List Hop) → InsideEvery i hs → all (λ h. starts_by start (cover h)) hs ≡ true → all (λ h. covers (cover h) start) hs ≡ true
  all_covers [] k e = refl
  all_covers (h ∷ hs) k e =
      let here = starts_by start (cover h) in
      let rest = all (λ x. starts_by start (cover x)) hs in
      and_both (covers (cover h) start) (all (λ x. covers (cover x) start) hs)
      (started_covers (cover h) k.0 (and_left here rest e))
      (all_covers hs k.1 (and_right here rest e))

module _ (i : ℕ) (hs : List Hop) (within : InsideEvery i hs) where
  not_late : (c : Coverage) → Ranged (Between i) c → too_late hs c ≡ false
  not_late AllTime k = refl
  not_late (Range start end) k =
      both (all (λ h. starts_by start (cover h)) hs)
      (λ e. rw (e, all_covers i start k.0 hs within e))
      (λ e. rw e)
  not_late Empty k = absurd k

  none_due : no_common_due hs ≡ None
  none_due =
      rw (first_none is_empty (Inside i) (λ h k. ranged_filled _ (cover h) k) hs within)
      (first_none (too_late hs) (Inside i) (λ h k. not_late (cover h) k) hs within)

-- ---- no such instant: the hop to blame is named

module _ (h : Hop) (hs : List Hop) (never : (i : ℕ) → InsideEvery i hs → ⊥) where
  -- the first hop with the latest start
  module _ (s e : ℕ) (q : cover h ≡ Range s e) where
    abbrev Earlier : Coverage → Type 0
    Earlier c = Ranged (λ start end. start < s) c

    abbrev NoLater : Coverage → Type 0
    NoLater c = Ranged (λ start end. start ≤ s) c

    abbrev First : Type 0
    First = Placed (λ x. Earlier (cover x)) h (λ x. NoLater (cover x)) hs

    -- what a start no later than s gives
    every : First → (R : Coverage → Type 0) → ((c : Coverage) → NoLater c → R c) → Every (λ x. R (cover x)) hs
    every p R w =
        placed_every (λ x. Earlier (cover x)) (λ x. NoLater (cover x)) h (λ x. R (cover x))
        (λ x k. w (cover x) (sooner (cover x) k))
        (w (cover h) (rw q (omega arith)))
        (λ x k. w (cover x) k)
        hs p
      where
        sooner : (c : Coverage) → Earlier c → NoLater c
        sooner AllTime k = tt
        sooner (Range start end) k = omega arith
        sooner Empty k = absurd k

    -- at an earlier start it has not started
    earlier_free : First → (c : Coverage) → Earlier c → too_late hs c ≡ false
    earlier_free p AllTime k = refl
    earlier_free p (Range start end) k =
        both (all (λ x. starts_by start (cover x)) hs)
        (λ a.
        let each = (every_passes (λ x. starts_by start (cover x)) hs).0 a in
        let placed = subst (λ (l : List Hop). Every (λ x. starts_by start (cover x) ≡ true) l) p.place each in
        let here = every_here (λ x. starts_by start (cover x) ≡ true) p.before h p.after placed in
        let late = leb-true s start (rw q at here) in
        absurd (omega arith))
        (λ a. rw a)
    earlier_free p Empty k = absurd k

    -- at its own start every hop has started, and not all are served, since no instant is inside every range
    late_here : First → too_late hs (cover h) ≡ true
    late_here p =
        rw q
        (and_both (all (λ x. starts_by s (cover x)) hs) (not (all (λ x. covers (cover x) s) hs))
        ((every_passes (λ x. starts_by s (cover x)) hs).1 (every p (λ c. starts_by s c ≡ true) starts))
        (both (all (λ x. covers (cover x) s) hs)
        (λ a.
        let each = (every_passes (λ x. covers (cover x) s) hs).0 a in
        absurd (never s (every_map {P = λ x. covers (cover x) s ≡ true} {Q = Inside s} (λ x k. inside_covers s (cover x) k) hs each)))
        (λ a. rw a)))
      where
        starts : (c : Coverage) → NoLater c → starts_by s c ≡ true
        starts AllTime k = refl
        starts (Range start end) k = le-leb start s k
        starts Empty k = absurd k

    latest_due : First → no_common_due hs ≡ Some (hop h.0 (range h.1.samples))
    latest_due p =
        rw (first_none is_empty (λ x. is_empty (cover x) ≡ false) (λ x k. k) hs (every p (λ c. is_empty c ≡ false) (λ c k. ranged_filled _ c k)))
        (first_placed (too_late hs) (λ x. Earlier (cover x)) (λ x k. earlier_free p (cover x) k) (λ x. NoLater (cover x)) h hs p (late_here p))

  blamed_due : Blamed h hs → no_common_due hs ≡ Some (hop h.0 (range h.1.samples))
  blamed_due (empty c p) = rw (first_placed is_empty (λ x. Ranged (λ start end. Unit {0}) (cover x)) (λ x k. ranged_filled _ (cover x) k) (λ x. Unit {0}) h hs p (rw c))
  blamed_due (latest s e q p) = latest_due s e q p

-- ---- the reply

pub path_due : (hs : List Hop) → order.refused (spans hs then meet) ≡ order.due_or 12 (no_common_due hs) None
path_due hs = go (spans hs then meet) (replied hs)
  where
    go : (r : Reply Value) → Replied hs r → order.refused r ≡ order.due_or 12 (no_common_due hs) None
    go r (all_static e k) = rw (e, none_due 0 hs (static_inside hs k 0))
    go r (greatest i e k) = rw (e, none_due i hs k.inside)
    go r (refused h e never b) = rw (e, blamed_due h hs never b)
