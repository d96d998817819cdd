-- When a lookup is refused with 11, and which hop it names, and when with 10.
use Prim.Native.Nat.{ℕ, ◌≤◌}
use mathlib.Core.Path.{◌≡◌, refl, sym, ap, subst, subst⁻¹, ◌∙◌}
use mathlib.Core.Logic.{◌↔◌}
use mathlib.Core.Bool.{true, false}
use Rattle.std.specs.Prelude.{Option, None, Some}
use mathlib.Core.List.{List, [], ◌∷◌, ◌++◌, append_assoc}
use native.Mathlib.Omega.{arith}
use lib.Dec.{leb}
use borrow.Author.Tests.{leb-true, le-leb}
use Rattle.time.specs.Reply.{Carried, nothing, hop, Reply, answer, refusal, ◌then◌}
use Rattle.geometry.specs.declared.isometry.Isometry.{Isometry}
use Rattle.geometry.specs.Isometry.{identity}
use Rattle.buffer.specs.declared.kind.Kind.{Kind}
use Rattle.buffer.specs.declared.kind.Kind.TheVariants.{Static, Dynamic}
use Rattle.buffer.specs.Samples.{Samples, newest, range, coverage, served}
use Rattle.buffer.specs.Row.{instants_sound}
use Rattle.buffer.proofs.Cases.{both, false_true, and_both, and_left, and_right}
use Rattle.buffer.proofs.Maps.{rising_is}
use Rattle.buffer.proofs.RangeLaws.{within}
use Rattle.buffer.proofs.ServedLaws.{served_static, served_inside, served_outside}
use Rattle.registry.specs.Tree.{Tree, Limits}
use Rattle.registry.specs.Answers.{Value, pose}
use Rattle.registry.specs.Path.{Hop, chain, hops, side, connected, onto, fold, combined, lookup_along, lookup_apart, lookup}
use Rattle.registry.specs.Laws.{SoundTree}
use Rattle.registry.specs.PathLaws.{path, Every, Ranged, Inside, Placed, asked, TwoKnown, LookupNotServed, LookupDisconnected}
use Rattle.registry.specs.Replies.{of_pose, answers}
use Rattle.registry.proofs.paths.Paths.{ask_along, ask_apart, hops_pass, every_here, every_unit, every_append, placed_behind}
use Rattle.registry.proofs.Fits.{Fits, refused, other, never, combined_fits}
use Rattle.registry.proofs.lookup.Joining.{empty_sides}
use Rattle.registry.proofs.ViewFixes.{single_row, row_rises}

-- ---- one hop

module _ (i : ℕ) where
  abbrev Here : Kind → Samples → Type 0
  Here k m = Ranged (λ start end. (start ≤ i) × (i ≤ end)) (coverage k m)

  here_of : (m : Samples) → within (range m) i ≡ true → Here Dynamic m
  here_of [] w = absurd (false_true w)
  here_of (x ∷ m) w = (leb-true x.0 i (and_left (leb x.0 i) _ w), leb-true i (newest (x ∷ m)) (and_right (leb x.0 i) _ w))

  of_here : (m : Samples) → Here Dynamic m → within (range m) i ≡ true
  of_here [] k = absurd k
  of_here (x ∷ m) k = and_both (leb x.0 i) (leb i (newest (x ∷ m))) (le-leb x.0 i k.0) (le-leb i (newest (x ∷ m)) k.1)

  -- a row serves the instants inside it, and refuses others
  data Serving (child : ℕ) (k : Kind) (m : Samples) (r : Reply Isometry) : Type 0 where
    serves : (p : Isometry) → r ≡ answer p → Here k m → Serving child k m r
    fails : r ≡ refusal 11 (hop child (range m)) → (Here k m → ⊥) → Serving child k m r

  serving : (age : Option ℕ) (capacity child : ℕ) (k : Kind) (m : Samples) → instants_sound age capacity k m ≡ true → Serving child k m (served child k m i)
  serving age capacity child Static m s =
      let row = single_row age capacity m s in
      serves row.0 (ap (λ (l : Samples). served child Static l i) row.1 ∙ served_static child (0, row.0) [] i) tt
  serving age capacity child Dynamic m s =
      let r = (rising_is m).0 (row_rises age capacity Dynamic m s) in
      both (within (range m) i)
      (λ w. let found = served_inside child m i r w in serves found.0 found.1 (here_of m w))
      (λ w. fails (served_outside child m i r w) (λ k. false_true (sym w ∙ of_here m k)))

-- ---- hops in order

module _ (age : Option ℕ) (capacity i : ℕ) where
  abbrev Sound : Hop → Type 0
  Sound h = instants_sound age capacity h.1.kind h.1.samples ≡ true

  -- the first hop that does not serve the instant
  pub record Fails (h : Hop) (hs : List Hop) : Type 0 where
    pub outside : Inside i h → ⊥
    pub placed : Placed (Inside i) h (λ x. Unit {0}) hs

  data Folded (hs : List Hop) (r : Reply (Option Isometry)) : Type 0 where
    through : (p : Option Isometry) → r ≡ answer p → Every (Inside i) hs → Folded hs r
    stops : (h : Hop) → r ≡ refusal 11 (hop h.0 (range h.1.samples)) → Fails h hs → Folded hs r

  behind : (x h : Hop) (hs : List Hop) → Inside i x → Fails h hs → Fails h (x ∷ hs)
  behind x h hs k f = record { outside = f.outside; placed = placed_behind (Inside i) (λ y. Unit {0}) h x hs k f.placed }

  folded : (below : Option Isometry) (hs : List Hop) → Every Sound hs → Folded hs (fold below hs i)
  folded below [] s = through below refl tt
  folded below (h ∷ hs) s = by (λ p. folded (Some (onto p below)) hs s.1) (serving i age capacity h.0 h.1.kind h.1.samples s.0)
    where
      next : (p : Isometry) → served h.0 h.1.kind h.1.samples i ≡ answer p → Inside i h → Folded hs (fold (Some (onto p below)) hs i)
          → Folded (h ∷ hs) (fold below (h ∷ hs) i)
      next p e k (through q z w) = through q (rw e z) (k, w)
      next p e k (stops x z f) = stops x (rw e z) (behind h x hs k f)

      by : ((p : Isometry) → Folded hs (fold (Some (onto p below)) hs i))
          → Serving i h.0 h.1.kind h.1.samples (served h.0 h.1.kind h.1.samples i) → Folded (h ∷ hs) (fold below (h ∷ hs) i)
      by rest (serves p e k) = next p e k (rest p)
      by rest (fails e k) =
          stops h (rw e) (record { outside = k; placed = record { before = []; after = hs; place = refl; earlier = tt; later = every_unit hs } })

  -- ---- a target's hops and a source's

  fails_front : (h : Hop) (a b : List Hop) → Fails h a → Fails h (a ++ b)
  fails_front h a b f = record {
    outside = f.outside;
    placed = record {
      before = f.placed.before;
      after = f.placed.after ++ b;
      place = ap {B = List Hop} (λ (l : List Hop). l ++ b) f.placed.place ∙ append_assoc f.placed.before (h ∷ f.placed.after) b;
      earlier = f.placed.earlier;
      later = every_unit (f.placed.after ++ b);
    };
  }

  fails_back : (h : Hop) (a b : List Hop) → Every (Inside i) a → Fails h b → Fails h (a ++ b)
  fails_back h [] b k f = f
  fails_back h (x ∷ a) b k f = behind x h (a ++ b) k.0 (fails_back h a b k.1 f)

  -- there is one first hop that fails
  fails_one : (hs : List Hop) (g h : Hop) → Fails g hs → Fails h hs → g ≡ h
  fails_one hs g h f k = go f.placed.before k.placed.before f.placed.earlier k.placed.earlier (sym f.placed.place ∙ k.placed.place)
    where
      go : (a b : List Hop) → Every (Inside i) a → Every (Inside i) b → a ++ (g ∷ f.placed.after) ≡ b ++ (h ∷ k.placed.after) → g ≡ h
      go [] [] u v e = cc e
      go [] (y ∷ b) u v e = let z : g ≡ y = cc e in absurd (f.outside (subst⁻¹ (Inside i) z v.0))
      go (x ∷ a) [] u v e = let z : x ≡ h = cc e in absurd (k.outside (subst (Inside i) z u.0))
      go (x ∷ a) (y ∷ b) u v e = go a b u.1 v.1 (cc e)

  -- the target's hops are all served, with x for their product, and the source's, with y; or a hop fails
  pub data Walked (a b : List Hop) (last : Option Isometry → Option Isometry → Reply Value) (r : Reply Value) : Type 0 where
    arrives : (x y : Option Isometry) → fold None a i ≡ answer x → fold None b i ≡ answer y → r ≡ last x y → Every (Inside i) (a ++ b) → Walked a b last r
    halts : (h : Hop) → r ≡ refusal 11 (hop h.0 (range h.1.samples)) → Fails h (a ++ b) → Walked a b last r

  walked : (a b : List Hop) (last : Option Isometry → Option Isometry → Reply Value) → Every Sound a → Every Sound b
      → Walked a b last (fold None a i then λ x. fold None b i then λ y. last x y)
  walked a b last sa sb = by (folded None a sa) (folded None b sb)
    where
      by : Folded a (fold None a i) → Folded b (fold None b i) → Walked a b last (fold None a i then λ x. fold None b i then λ y. last x y)
      by (stops h e f) w = halts h (rw e) (fails_front h a b f)
      by (through x e k) (stops h z f) = halts h (rw (e, z)) (fails_back h a b k f)
      by (through x e k) (through y z l) = arrives x y e z (rw (e, z)) (every_append (Inside i) a b k l)

  module _ (a b : List Hop) (last : Option Isometry → Option Isometry → Reply Value) (r : Reply Value) where
    -- some hop fails, or none does
    not_both : (h : Hop) → Every (Inside i) (a ++ b) → Fails h (a ++ b) → ⊥
    not_both h k f = f.outside (every_here (Inside i) f.placed.before h f.placed.after (subst (λ (l : List Hop). Every (Inside i) l) f.placed.place k))

    eleven : ((x y : Option Isometry) → Fits (other 11) (answers of_pose) (last x y)) → Walked a b last r → (c : Carried)
        → (r ≡ refusal 11 c)
        ↔ ((h : Hop) × (c ≡ hop h.0 (range h.1.samples)) × (Inside i h → ⊥) × Placed (Inside i) h (λ x. Unit {0}) (a ++ b))
    eleven rest (arrives x y p q e k) c = (
      λ z. absurd (never (rest x y) (sym e ∙ z)),
      λ z. absurd (not_both z.0 k (record { outside = z.2; placed = z.3 })),
    )
    eleven rest (halts h e f) c = (
      λ z. (h, (cc), f.outside, f.placed),
      λ z.
          let same : h ≡ z.0 = fails_one (a ++ b) h z.0 f (record { outside = z.2; placed = z.3 }) in
          e ∙ ap (λ (x : Hop). refusal 11 (hop x.0 (range x.1.samples))) same ∙ ap (refusal 11) (sym z.1),
    )

-- ---- the laws

module _ (L : Limits) (t : Tree) (s : SoundTree L t) (f g : ℕ) (k : TwoKnown t f g) (i : ℕ) where
  hops_sound : (xs : List ℕ) → Every (Sound L.age L.capacity i) (hops t xs)
  hops_sound xs = hops_pass (λ x. instants_sound L.age L.capacity x.1.kind x.1.samples) t s.rises s.instants xs

  lookup_along_lem : connected t f g ≡ true → lookup t f g i ≡ lookup_along i (hops t (side t f g)) (hops t (side t g f))
  unfolding lookup
  lookup_along_lem m = ask_along (pose identity) (lookup_along i) (lookup_apart i) t f g k empty_sides m

  lookup_apart_lem : connected t f g ≡ false → lookup t f g i ≡ lookup_apart i (hops t (chain t f)) (hops t (chain t g))
  unfolding lookup
  lookup_apart_lem m = ask_apart (pose identity) (lookup_along i) (lookup_apart i) t f g k m

  pub on_path : connected t f g ≡ true → Walked L.age L.capacity i (hops t (side t f g)) (hops t (side t g f)) combined (lookup t f g i)
  on_path m =
      rw (lookup_along_lem m)
      (walked L.age L.capacity i (hops t (side t f g)) (hops t (side t g f)) combined (hops_sound (side t f g)) (hops_sound (side t g f)))

  pub off_path : connected t f g ≡ false → Walked L.age L.capacity i (hops t (chain t f)) (hops t (chain t g)) (λ x y. refusal 10 nothing) (lookup t f g i)
  off_path m =
      rw (lookup_apart_lem m)
      (walked L.age L.capacity i (hops t (chain t f)) (hops t (chain t g)) (λ x y. refusal 10 nothing) (hops_sound (chain t f)) (hops_sound (chain t g)))

pub lookup_not_served : LookupNotServed
unfolding asked path
lookup_not_served L t s f g k i c =
    both (connected t f g)
    (λ m.
    rw m
    (eleven L.age L.capacity i (hops t (side t f g)) (hops t (side t g f)) combined (lookup t f g i)
    (combined_fits (other 11) refl refl refl) (on_path L t s f g k i m) c))
    (λ m.
    rw m
    (eleven L.age L.capacity i (hops t (chain t f)) (hops t (chain t g)) (λ x y. refusal 10 nothing) (lookup t f g i)
    (λ x y. refused refl) (off_path L t s f g k i m) c))

eleven_ten : {r : Reply Value} {c d : Carried} → r ≡ refusal 11 c → r ≡ refusal 10 d → ⊥
eleven_ten p q = let z : ◌≡◌ {A = ℕ} 11 10 = cc in omega arith

module _ (age : Option ℕ) (capacity i : ℕ) (a b : List Hop) (r : Reply Value) (c : Carried) where
  connected_ten : Walked age capacity i a b combined r → r ≡ refusal 10 c → ⊥
  connected_ten (arrives x y p q e k) z = never (combined_fits (other 10) refl refl refl x y) (sym e ∙ z)
  connected_ten (halts h e f) z = eleven_ten e z

  ten : Walked age capacity i a b (λ x y. refusal 10 nothing) r → (r ≡ refusal 10 c) ↔ ((c ≡ nothing) × Every (Inside i) (a ++ b))
  ten (arrives x y p q e k) = (λ z. ((cc), k), λ z. e ∙ ap (refusal 10) (sym z.0))
  ten (halts h e f) = (
    λ z. absurd (eleven_ten e z),
    λ z. absurd (not_both age capacity i a b (λ x y. refusal 10 nothing) r h z.1 f),
  )

pub lookup_disconnected : LookupDisconnected
unfolding asked
lookup_disconnected L t s f g k i c =
    both (connected t f g)
    (λ m. (
      λ z. absurd (connected_ten L.age L.capacity i (hops t (side t f g)) (hops t (side t g f)) (lookup t f g i) c (on_path L t s f g k i m) z),
      λ z. absurd (false_true (sym z.1 ∙ m)),
    ))
    (λ m.
    let law = ten L.age L.capacity i (hops t (chain t f)) (hops t (chain t g)) (lookup t f g i) c (off_path L t s f g k i m) in
    rw m (λ z. let w = law.0 z in (w.0, refl, w.1), λ z. law.1 (z.0, z.2)))
