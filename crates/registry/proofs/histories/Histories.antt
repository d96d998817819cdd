-- One frame: its edge is what its own accepted additions say, and stays so with one more.
use Prim.Native.Nat.{ℕ, ◌-◌, max}
use mathlib.Core.Path.{◌≡◌, refl, sym, ap, ◌∙◌}
use mathlib.Core.Bool.{Bool, cond}
use Rattle.std.specs.Prelude.{Option, None, Some, option_map}
use mathlib.Core.List.{List, [], ◌∷◌, ◌++◌, map}
use native.Mathlib.Omega.{arith}
use lib.Dec.{eqb, ltb}
use borrow.Author.Tests.{le-leb, ltb-true, eq-eqb, ne_eqb, eqb-true, eqb-false}
use Rattle.time.specs.declared.stamp.Stamp.{Stamp}
use Rattle.time.specs.declared.stamp.Stamp.TheVariants as stamp
use Rattle.geometry.specs.declared.isometry.Isometry.{Isometry}
use Rattle.buffer.specs.declared.kind.Kind.{Kind}
use Rattle.buffer.specs.declared.kind.Kind.TheVariants.{Static, Dynamic}
use Rattle.buffer.specs.Map.{get}
use Rattle.buffer.specs.Samples.{Samples, newest, survives, insert, last?, first?}
use Rattle.buffer.proofs.Cases.{both, none_some}
use Rattle.buffer.proofs.Maps.{Rising}
use Rattle.buffer.proofs.SampleLaws.{survives_zero, survives_down, newest_insert_lem, get_insert_lem, rising_insert}
use Rattle.buffer.specs.Kind.{kind_of}
use Rattle.registry.specs.Tree.{Edge, Addition, instant_of, updated_edge}
use Rattle.registry.specs.History.{select, greatest, own, parent_of, frame_kind, last_pose, at_instant, newest_instant, recent, survivor_in, survivor}
use Rattle.registry.proofs.addition.Accepted.{Suits}

-- ---- one more at the end of a list

module _ {A : Type 0} where
  pub select_snoc : (test : A → Bool) (xs : List A) (a : A) → select test (xs ++ (a ∷ [])) ≡ cond (test a) (select test xs ++ (a ∷ [])) (select test xs)
  select_snoc test [] a = refl
  select_snoc test (x ∷ xs) a =
      both (test x)
      (λ e. rw e (ap {B = List A} (λ r. x ∷ r) (select_snoc test xs a) ∙ both (test a) (λ q. rw q) (λ q. rw q)))
      (λ e. rw e (select_snoc test xs a))

  last_snoc : (xs : List A) (a : A) → last? (xs ++ (a ∷ [])) ≡ Some a
  last_snoc [] a = refl
  last_snoc (x ∷ []) a = refl
  last_snoc (x ∷ y ∷ xs) a = last_snoc (y ∷ xs) a

  greatest_snoc : (f : A → ℕ) (xs : List A) (a : A) → greatest (map f (xs ++ (a ∷ []))) ≡ max (f a) (greatest (map f xs))
  greatest_snoc f [] a = refl
  greatest_snoc f (x ∷ xs) a = let ih = greatest_snoc f xs a in omega arith

  head_snoc : {B : Type 0} (g : A → B) (xs : List A) (a : A) (v : B) → option_map g (first? xs) ≡ Some v → option_map g (first? (xs ++ (a ∷ []))) ≡ Some v
  head_snoc g [] a v e = absurd (none_some e)
  head_snoc g (x ∷ xs) a v e = e

-- ---- what is left of a frame's own additions; a static addition counts at instant 0, so that this is for either kind

abbrev pub left : Option ℕ → List Addition → ℕ → Option Isometry
left age xs i = cond (survives age (newest_instant xs) i) (last_pose (at_instant i xs)) None

last_pose_snoc : (i : ℕ) (xs : List Addition) (a : Addition)
    → last_pose (at_instant i (xs ++ (a ∷ []))) ≡ cond (eqb (instant_of a.stamp) i) (Some a.pose) (last_pose (at_instant i xs))
last_pose_snoc i xs a =
    rw select_snoc
    (both (eqb (instant_of a.stamp) i)
    (λ e. rw e (ap (option_map (λ (x : Addition). x.pose)) (last_snoc (at_instant i xs) a)))
    (λ e. rw e))

-- the law of one addition: put in, then expired, is one more at the end of the history
left_snoc : (age : Option ℕ) (xs : List Addition) (a : Addition) (m : Samples)
    → newest m ≡ newest_instant xs
    → ((i : ℕ) → get m i ≡ left age xs i)
    → (i : ℕ) → get (insert age (instant_of a.stamp) a.pose m) i ≡ left age (xs ++ (a ∷ [])) i
left_snoc age xs a m n h i =
    get_insert_lem age (instant_of a.stamp) a.pose m i
    ∙ rw (n, greatest_snoc, last_pose_snoc, h i)
    (both (survives age (max (instant_of a.stamp) (newest_instant xs)) i)
    (λ e. rw (e, survives_down age (max (instant_of a.stamp) (newest_instant xs)) (newest_instant xs) i (omega arith) e))
    (λ e. rw e))

-- ---- the edge of a frame, and its own accepted additions

abbrev pub Alike : Kind → List Addition → Type 0
Alike k [] = Unit {0}
Alike k (a ∷ xs) = (kind_of a.stamp ≡ k) × Alike k xs

alike_snoc : (k : Kind) (xs : List Addition) (a : Addition) → Alike k xs → kind_of a.stamp ≡ k → Alike k (xs ++ (a ∷ []))
alike_snoc k [] a h e = (e, tt)
alike_snoc k (x ∷ xs) a h e = (h.0, alike_snoc k xs a h.1 e)

pub record EdgeIs (age : Option ℕ) (xs : List Addition) (e : Edge) : Type 0 where
  pub samples_are : (i : ℕ) → get e.samples i ≡ left age xs i
  pub newest_is : newest e.samples ≡ newest_instant xs
  pub parent_is : option_map (λ (a : Addition). a.parent) (first? xs) ≡ Some e.parent
  pub kind_is : option_map (λ (a : Addition). kind_of a.stamp) (first? xs) ≡ Some e.kind
  pub alike : Alike e.kind xs
  pub rising : Rising e.samples

-- a frame with no accepted addition is no child
abbrev pub HeldIs : Option ℕ → List Addition → Option Edge → Type 0
HeldIs age xs None = xs ≡ []
HeldIs age xs (Some e) = EdgeIs age xs e

pub edge_updated : (age : Option ℕ) (xs : List Addition) (held : Option Edge) (a : Addition)
    → HeldIs age xs held → Suits held a → EdgeIs age (xs ++ (a ∷ [])) (updated_edge age a held)
edge_updated age xs None a r s = rw r first
  where
    empty : (i : ℕ) → None ≡ left age [] i
    empty i = both (survives age 0 i) (λ e. rw e) (λ e. rw e)

    first : EdgeIs age (a ∷ []) (updated_edge age a None)
    first = record {
      samples_are = left_snoc age [] a [] refl empty;
      newest_is = newest_insert_lem age (instant_of a.stamp) a.pose [];
      parent_is = refl;
      kind_is = refl;
      alike = (refl, tt);
      rising = rising_insert age (instant_of a.stamp) a.pose [] tt;
    }
edge_updated age xs (Some e) a r s = record {
  samples_are = left_snoc age xs a e.samples r.newest_is r.samples_are;
  newest_is = newest_insert_lem age (instant_of a.stamp) a.pose e.samples ∙ rw (greatest_snoc, r.newest_is);
  parent_is = head_snoc (λ (x : Addition). x.parent) xs a e.parent r.parent_is;
  kind_is = head_snoc (λ (x : Addition). kind_of x.stamp) xs a e.kind r.kind_is;
  alike = alike_snoc e.kind xs a r.alike (sym s.1);
  rising = rising_insert age (instant_of a.stamp) a.pose e.samples r.rising;
}

-- ---- the same in the words of demand 3

static_instant : (s : Stamp) → kind_of s ≡ Static → instant_of s ≡ 0
static_instant stamp.Static e = refl
static_instant (stamp.At i) e = let z : ◌≡◌ {A = ℕ} 0 1 = cc e in absurd (omega arith)

static_newest : (xs : List Addition) → Alike Static xs → newest_instant xs ≡ 0
static_newest [] h = refl
static_newest (a ∷ xs) h = let ih = static_newest xs h.1 in rw (static_instant a.stamp h.0) (omega arith)

static_at : (i : ℕ) (xs : List Addition) → Alike Static xs → at_instant i xs ≡ cond (eqb 0 i) xs []
static_at i [] h = both (eqb 0 i) (λ e. rw e) (λ e. rw e)
static_at i (a ∷ xs) h =
    let ih = static_at i xs h.1 in
    rw (static_instant a.stamp h.0)
    (both (eqb 0 i) (λ e. rw e (ap {B = List Addition} (λ r. a ∷ r) (rw e at ih))) (λ e. rw e (rw e at ih)))

survives_recent : (age : Option ℕ) (n i : ℕ) → survives age n i ≡ recent age n i
survives_recent None n i = refl
survives_recent (Some age) n i =
    both (ltb n age)
    (λ e. rw e (let h = ltb-true n age e in le-leb (n - age) i (omega arith)))
    (λ e. rw e)

left_is : (age : Option ℕ) (xs : List Addition) (k : Kind) → Alike k xs → (i : ℕ) → left age xs i ≡ survivor_in age (Some k) xs i
left_is age xs Static h i =
    rw (static_newest xs h, survives_zero age i, static_at i xs h)
    (both (eqb i 0)
    (λ e. rw (e, eq-eqb 0 i (sym (eqb-true i 0 e))))
    (λ e. rw (e, ne_eqb 0 i (λ q. eqb-false i 0 e (sym q)))))
left_is age xs Dynamic h i = rw survives_recent

-- what a tree says of a frame
abbrev pub parent_in : Option Edge → Option ℕ
parent_in held = option_map (λ (e : Edge). e.parent) held

abbrev pub kind_in : Option Edge → Option Kind
kind_in held = option_map (λ (e : Edge). e.kind) held

abbrev pub sample_in : Option Edge → ℕ → Option Isometry
sample_in None i = None
sample_in (Some e) i = get e.samples i

abbrev pub RisingIn : Option Edge → Type 0
RisingIn None = Unit {0}
RisingIn (Some e) = Rising e.samples

-- it is what the accepted additions say
pub record FrameIs (age : Option ℕ) (f : ℕ) (xs : List Addition) (held : Option Edge) : Type 0 where
  pub parents : parent_of f xs ≡ parent_in held
  pub kinds : frame_kind f xs ≡ kind_in held
  pub survivors : (i : ℕ) → survivor age f xs i ≡ sample_in held i
  pub rising : RisingIn held

pub frame_is : (age : Option ℕ) (f : ℕ) (xs : List Addition) (held : Option Edge) → HeldIs age (own f xs) held → FrameIs age f xs held
unfolding parent_of frame_kind survivor
frame_is age f xs None h = record { parents = rw h; kinds = rw h; survivors = λ i. rw h; rising = tt }
frame_is age f xs (Some e) h = record {
  parents = h.parent_is;
  kinds = h.kind_is;
  survivors = λ i. rw h.kind_is (sym (h.samples_are i ∙ left_is age (own f xs) e.kind h.alike i));
  rising = h.rising;
}
