-- Latest common time: Static where every hop is static, else the greatest instant inside every moving hop's range, else 12 with the hop to blame.
use Prim.Native.Nat.{ℕ, suc, ◌≤◌, ◌<◌}
use mathlib.Core.Path.{◌≡◌, refl, sym, ap, subst, subst⁻¹, ◌∙◌}
use mathlib.Core.Logic.{◌↔◌}
use mathlib.Core.Bool.{true, false}
use Rattle.std.specs.Prelude.{Option, None, Some}
use mathlib.Core.List.{List, [], ◌∷◌, ◌++◌}
use native.Mathlib.Omega.{arith}
use lib.Dec.{eqb}
use borrow.Author.Tests.{eqb-true, eqb-false}
use Rattle.time.specs.Reply.{Carried, nothing, frame, hop, Reply, answer, refusal, ◌then◌}
use Rattle.buffer.specs.declared.kind.Kind.{Kind}
use Rattle.buffer.specs.declared.kind.Kind.TheVariants.{Static, Dynamic}
use Rattle.buffer.specs.declared.coverage.Coverage.{Coverage}
use Rattle.buffer.specs.declared.coverage.Coverage.TheVariants.{AllTime, Range, Empty}
use Rattle.buffer.specs.Samples.{Samples, range, coverage}
use Rattle.buffer.proofs.Cases.{both, false_true}
use Rattle.registry.specs.Tree.{Tree}
use Rattle.registry.specs.Answers.{Value, static, at}
use Rattle.registry.specs.Path.{Hop, connected, known, ask, Span, spans, meet, common_time}
use Rattle.registry.specs.PathLaws.{path, TwoKnown, Every, cover, Ranged, InsideEvery, Greatest, Placed, Blamed, empty, latest, CommonTimeStatic, CommonTimeGreatest, CommonTimeRefused, CommonTimeBlames}
use Rattle.registry.proofs.paths.Paths.{connected_are_known, known_connected, ask_along, side_same, every_here, every_unit, placed_behind}
use Rattle.registry.proofs.common_time.Spans.{EverySpan, Between, Met, still, meets, apart, met}

-- ---- a hop's cover

-- a cover's three shapes, with the equation
cover_or : {C : Type 0} (k : Coverage) → (k ≡ AllTime → C) → ((s e : ℕ) → k ≡ Range s e → C) → (k ≡ Empty → C) → C
cover_or AllTime f g h = f refl
cover_or (Range s e) f g h = g s e refl
cover_or Empty f g h = h refl

static_cover : (k : Kind) (m : Samples) → (coverage k m ≡ AllTime) ↔ (k ≡ Static)
static_cover Static m = (λ e. refl, λ e. refl)
static_cover Dynamic [] = (λ e. cc, λ e. cc)
static_cover Dynamic (x ∷ m) = (λ e. cc, λ e. cc)

range_cover : (k : Kind) (m : Samples) (s e : ℕ) → coverage k m ≡ Range s e → range m ≡ Some (s, e)
range_cover Static m s e q = cc
range_cover Dynamic [] s e q = cc
range_cover Dynamic (x ∷ m) s e q = cc

empty_cover : (k : Kind) (m : Samples) → coverage k m ≡ Empty → range m ≡ None
empty_cover Static m q = cc
empty_cover Dynamic [] q = refl
empty_cover Dynamic (x ∷ m) q = cc

-- ---- the ranges of hops

-- these are the ranges of the moving hops, and no hop is empty
data Spanned : List Hop → List Span → Type 0 where
  ends : Spanned [] []
  passes : {h : Hop} {hs : List Hop} {xs : List Span} → cover h ≡ AllTime → Spanned hs xs → Spanned (h ∷ hs) xs
  takes : {h : Hop} {hs : List Hop} {xs : List Span} (s e : ℕ) → cover h ≡ Range s e → Spanned hs xs
      → Spanned (h ∷ hs) (record { child = h.0; start = s; end = e } ∷ xs)

-- P of each range is P of each hop's
module _ (P : ℕ → ℕ → Type 0) where
  hops_have : {hs : List Hop} {xs : List Span} → Spanned hs xs → EverySpan P xs → Every (λ h. Ranged P (cover h)) hs
  hops_have ends k = tt
  hops_have (passes q w) k = (rw q tt, hops_have w k)
  hops_have (takes s e q w) k = (rw q k.0, hops_have w k.1)

  spans_have : {hs : List Hop} {xs : List Span} → Spanned hs xs → Every (λ h. Ranged P (cover h)) hs → EverySpan P xs
  spans_have ends k = tt
  spans_have (passes q w) k = spans_have w k.1
  spans_have (takes s e q w) k = (rw q at k.0, spans_have w k.1)

cons_nil : {x : Span} {xs : List Span} → x ∷ xs ≡ [] → ⊥
cons_nil n = let o : ◌≡◌ {A = ℕ} 0 1 = cc n in omega arith

no_spans : {hs : List Hop} {xs : List Span} → Spanned hs xs → xs ≡ [] → Every (λ h. h.1.kind ≡ Static) hs
no_spans ends z = tt
no_spans (passes {h} q w) z = ((static_cover h.1.kind h.1.samples).0 q, no_spans w z)
no_spans (takes s e q w) z = absurd (cons_nil z)

-- the hop that a range is of
record HopOf (P Q : ℕ → ℕ → Type 0) (s : Span) (hs : List Hop) : Type 0 where
  pub it : Hop
  pub child : it.0 ≡ s.child
  pub covers : cover it ≡ Range s.start s.end
  pub placed : Placed (λ h. Ranged P (cover h)) it (λ h. Ranged Q (cover h)) hs

module _ (P Q : ℕ → ℕ → Type 0) (s : Span) (after : List Span) (later : EverySpan Q after) where
  one_before : {hs : List Hop} (h : Hop) → Ranged P (cover h) → HopOf P Q s hs → HopOf P Q s (h ∷ hs)
  one_before {hs} h k w = record {
    it = w.it;
    child = w.child;
    covers = w.covers;
    placed = placed_behind (λ x. Ranged P (cover x)) (λ x. Ranged Q (cover x)) w.it h hs k w.placed;
  }

  hop_of : {hs : List Hop} {xs : List Span} → Spanned hs xs → (before : List Span) → EverySpan P before → xs ≡ before ++ (s ∷ after) → HopOf P Q s hs
  hop_of ends [] k p = absurd (cons_nil (sym p))
  hop_of ends (b ∷ before) k p = absurd (cons_nil (sym p))
  hop_of (passes {h} q w) before k p = one_before h (rw q tt) (hop_of w before k p)
  hop_of (takes {h} {hs} {xs} a e q w) [] k p =
      let this : record { child = h.0; start = a; end = e } ≡ s = cc p in
      let rest : xs ≡ after = cc p in
      record {
        it = h;
        child = ap (λ (z : Span). z.child) this;
        covers = q ∙ ap (λ (z : Span). Range z.start z.end) this;
        placed = record { before = []; after = hs; place = refl; earlier = tt; later = hops_have Q w (rw rest later) };
      }
  hop_of (takes {h} a e q w) (b ∷ before) k p =
      let this : record { child = h.0; start = a; end = e } ≡ b = cc p in
      one_before h (rw q (subst⁻¹ (λ (z : Span). P z.start z.end) this k.0)) (hop_of w before k.1 (cc p))

-- ---- what `spans` replies

data Ranges (hs : List Hop) (r : Reply (List Span)) : Type 0 where
  whole : (xs : List Span) → r ≡ answer xs → Spanned hs xs → Ranges hs r
  blank : (h : Hop) → r ≡ refusal 12 (hop h.0 None) → cover h ≡ Empty
      → Placed (λ x. Ranged (λ s e. Unit {0}) (cover x)) h (λ x. Unit {0}) hs → Ranges hs r

ranges : (hs : List Hop) → Ranges hs (spans hs)
ranges [] = whole [] refl ends
ranges (h ∷ hs) = go (ranges hs)
  where
    go : Ranges hs (spans hs) → Ranges (h ∷ hs) (spans (h ∷ hs))
    go w =
        cover_or (cover h)
        (λ q. after_static q w)
        (λ s e q. after_range s e q w)
        (λ q. blank h (rw q) q (record { before = []; after = hs; place = refl; earlier = tt; later = every_unit hs }))
      where
        after_static : cover h ≡ AllTime → Ranges hs (spans hs) → Ranges (h ∷ hs) (spans (h ∷ hs))
        after_static q (whole xs z w) = whole xs (rw q z) (passes q w)
        after_static q (blank x z c p) = blank x (rw q z) c (placed_behind (λ y. Ranged (λ s e. Unit {0}) (cover y)) (λ y. Unit {0}) x h hs (rw q tt) p)

        after_range : (s e : ℕ) → cover h ≡ Range s e → Ranges hs (spans hs) → Ranges (h ∷ hs) (spans (h ∷ hs))
        after_range s e q (whole xs z w) = whole (record { child = h.0; start = s; end = e } ∷ xs) (rw (q, z)) (takes s e q w)
        after_range s e q (blank x z c p) = blank x (rw (q, z)) c (placed_behind (λ y. Ranged (λ s e. Unit {0}) (cover y)) (λ y. Unit {0}) x h hs (rw q tt) p)

-- ---- what the path's hops reply

pub data Replied (hs : List Hop) (r : Reply Value) : Type 0 where
  all_static : r ≡ answer static → Every (λ h. h.1.kind ≡ Static) hs → Replied hs r
  greatest : (i : ℕ) → r ≡ answer (at i) → Greatest i hs → Replied hs r
  refused : (h : Hop) → r ≡ refusal 12 (hop h.0 (range h.1.samples)) → ((i : ℕ) → InsideEvery i hs → ⊥) → Blamed h hs → Replied hs r

pub replied : (hs : List Hop) → Replied hs (spans hs then meet)
replied hs = by_ranges (ranges hs)
  where
    by_meet : {xs : List Span} → spans hs ≡ answer xs → Spanned hs xs → Met xs (meet xs) → Replied hs (spans hs then meet)
    by_meet z w (still e n) = all_static (rw z e) (no_spans w n)
    by_meet z w (meets i e k top) = greatest i (rw z e) (record { inside = hops_have (Between i) w k; top = λ j h. top j (spans_have (Between j) w h) })
    by_meet z w (apart s e none_in l) =
        let found = hop_of (λ start end. start < s.start) (λ start end. start ≤ s.start) s l.after l.later w l.before l.earlier l.place in
        let it = found.it in
        refused it
        (rw z (e ∙ λ i. refusal 12 (hop (sym found.child i) (sym (range_cover it.1.kind it.1.samples s.start s.end found.covers) i))))
        (λ i h. none_in i (spans_have (Between i) w h))
        (latest s.start s.end found.covers found.placed)

    by_ranges : Ranges hs (spans hs) → Replied hs (spans hs then meet)
    by_ranges (whole xs z w) = by_meet z w (met xs)
    by_ranges (blank h z c p) =
        refused h
        (rw z (ap {A = Option (ℕ × ℕ)} (λ o. refusal 12 (hop h.0 o)) (sym (empty_cover h.1.kind h.1.samples c))))
        (λ i k. rw c at (every_here (λ x. Ranged (Between i) (cover x)) p.before h p.after (subst (λ (l : List Hop). InsideEvery i l) p.place k)))
        (empty c p)

-- ---- the laws

-- of known, connected frames the common time is that of their path, the empty path of a frame and itself included
pub common_time_lem : (t : Tree) (f g : ℕ) → TwoKnown t f g → connected t f g ≡ true → common_time t f g ≡ (spans (path t f g) then meet)
unfolding common_time path
common_time_lem t f g k m = ask_along static (λ a b. spans (a ++ b) then meet) (λ a b. refusal 10 nothing) t f g k refl m

of_path : (t : Tree) (f g : ℕ) → TwoKnown t f g → connected t f g ≡ true → Replied (path t f g) (common_time t f g)
of_path t f g k m = rw (common_time_lem t f g k m) (replied (path t f g))

-- every instant is inside where no hop moves
pub static_inside : (hs : List Hop) → Every (λ h. h.1.kind ≡ Static) hs → (i : ℕ) → InsideEvery i hs
static_inside [] k i = tt
static_inside (h ∷ hs) k i = (rw ((static_cover h.1.kind h.1.samples).1 k.0) tt, static_inside hs k.1 i)

static_at : {r : Reply Value} {i : ℕ} → r ≡ answer static → r ≡ answer (at i) → ⊥
static_at p q = let o : ◌≡◌ {A = ℕ} 0 1 = cc in omega arith

answered_refused : {r : Reply Value} {v : Value} {k : ℕ} {c : Carried} → r ≡ answer v → r ≡ refusal k c → ⊥
answered_refused p q = let o : ◌≡◌ {A = ℕ} 0 1 = cc in omega arith

-- there is one greatest instant
greatest_one : {i j : ℕ} {hs : List Hop} → Greatest i hs → Greatest j hs → i ≡ j
greatest_one {i} {j} a b = let l = a.top j b.inside in let k = b.top i a.inside in omega arith

module _ (hs : List Hop) (r : Reply Value) where
  is_static_lem : Replied hs r → (r ≡ answer static) ↔ Every (λ h. h.1.kind ≡ Static) hs
  is_static_lem (all_static e k) = (λ z. k, λ z. e)
  is_static_lem (greatest i e k) = (λ z. absurd (static_at z e), λ z. absurd (let l = k.top (suc i) (static_inside hs z (suc i)) in omega arith))
  is_static_lem (refused h e never b) = (λ z. absurd (answered_refused z e), λ z. absurd (never 0 (static_inside hs z 0)))

  is_greatest : Replied hs r → (i : ℕ) → (r ≡ answer (at i)) ↔ Greatest i hs
  is_greatest (all_static e k) i = (λ z. absurd (static_at e z), λ z. absurd (let l = z.top (suc i) (static_inside hs k (suc i)) in omega arith))
  is_greatest (greatest j e k) i = (
    λ z. let same : j ≡ i = cc in subst (λ (n : ℕ). Greatest n hs) same k,
    λ z. e ∙ ap (λ (n : ℕ). answer (at n)) (greatest_one k z),
  )
  is_greatest (refused h e never b) i = (λ z. absurd (answered_refused z e), λ z. absurd (never i z.inside))

  is_refused : Replied hs r → ((k : ℕ) × (c : Carried) × (r ≡ refusal k c)) ↔ ((i : ℕ) → InsideEvery i hs → ⊥)
  is_refused (all_static e k) = (λ z. absurd (answered_refused e z.2), λ z. absurd (z 0 (static_inside hs k 0)))
  is_refused (greatest i e k) = (λ z. absurd (answered_refused e z.2), λ z. absurd (z i k.inside))
  is_refused (refused h e never b) = (λ z. never, λ z. (12, hop h.0 (range h.1.samples), e))

  blames : Replied hs r → (k : ℕ) (c : Carried) → r ≡ refusal k c → (k ≡ 12) × ((h : Hop) × (c ≡ hop h.0 (range h.1.samples)) × Blamed h hs)
  blames (all_static e w) k c z = absurd (answered_refused e z)
  blames (greatest i e w) k c z = absurd (answered_refused e z)
  blames (refused h e never b) k c z = ((cc), (h, (cc), b))

pub common_time_static : CommonTimeStatic
common_time_static t f g k m = is_static_lem (path t f g) (common_time t f g) (of_path t f g k m)

-- of an unknown frame and itself 9, and no instant is the greatest inside every hop of an empty path
greatest_unknown : (t : Tree) (f i : ℕ) → known t f ≡ false → (common_time t f f ≡ answer (at i)) ↔ Greatest i (path t f f)
unfolding common_time ask path
greatest_unknown t f i k = (
  λ z. absurd (answered_refused {k = 9} {c = frame f} z (rw k)),
  λ z. absurd (let l = rw (side_same t f) at (z.top (suc i)) in let h = l tt in omega arith),
)

pub common_time_greatest : CommonTimeGreatest
common_time_greatest t f g m i =
    both (known t f)
    (λ k. is_greatest (path t f g) (common_time t f g) (of_path t f g (known_connected t f g k m) m) i)
    (λ k.
    both (eqb f g)
    (λ e. rw (← eqb-true f g e) (greatest_unknown t f i k))
    (λ e. absurd (false_true (sym k ∙ (connected_are_known t f g (eqb-false f g e) m).target))))

pub common_time_refused : CommonTimeRefused
common_time_refused t f g k m = is_refused (path t f g) (common_time t f g) (of_path t f g k m)

pub common_time_blames : CommonTimeBlames
common_time_blames t f g k m = blames (path t f g) (common_time t f g) (of_path t f g k m)
