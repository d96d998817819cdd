-- The edges under a frame from a number on: the first of them, and those behind it.
use Rattle.std.proofs.Common.{◌≡◌, ℕ, ◌+◌, ◌≤◌, Bool, true, false, ◌&&◌, eqb, leb, [], ◌∷◌, map, sym, refl, ap, subst, ◌∙◌, arith, le-leb, leb-false, leb-true, eqb-true}
use borrow.Author.Tests.{lt-leb}
use Rattle.std.specs.Prelude.{Option, None, Some}
use Rattle.std.specs.List.{find}
use Rattle.buffer.specs.Map.{get, keep, rising}
use Rattle.buffer.specs.Samples.{first?}
use Rattle.buffer.proofs.Cases.{both, none_some}
use Rattle.buffer.proofs.Maps.{Floor, Rising, rising_is, get_floor}
use Rattle.registry.specs.Tree.{Edge, Tree}
use Rattle.registry.specs.NextEdge.{edge_from, told, told_edge}
use Rattle.registry.specs.declared.checked.Edge.{Edge as Told}
use Rattle.registry.proofs.NextEdge.{reads_through}
use Rattle.console.specs.Tree.{under}

-- all edges stand from 0 on
pub from_zero : (t : Tree) → keep (leb 0) t ≡ t
from_zero [] = refl
from_zero (x ∷ t) = rw (le-leb 0 x.0 (omega arith)) (ap {B = Tree} (λ r. x ∷ r) (from_zero t))

-- ---- the first edge, and those behind it

above : (k j : ℕ) (t : Tree) → Floor k t → j ≤ k + 1 → keep (leb j) t ≡ t
above k j [] f h = refl
above k j (x ∷ t) f h = let f₀ = f.0 in rw (le-leb j x.0 (omega arith)) (ap {B = Tree} (λ r. x ∷ r) (above k j t f.1 h))

first_kept : (t : Tree) → Rising t → (f : ℕ) (x : ℕ × Edge) → edge_from t f ≡ Some x → keep (leb f) t ≡ x ∷ keep (leb (x.0 + 1)) t
first_kept [] r f x q = absurd (none_some q)
first_kept (y ∷ t) r f x q = both (leb f y.0) here (there (first_kept t r.1 f x))
  where
    here : leb f y.0 ≡ true → keep (leb f) (y ∷ t) ≡ x ∷ keep (leb (x.0 + 1)) (y ∷ t)
    here e =
        let l = leb-true f y.0 e in
        let p : y ≡ x = cc (rw e at q) in
        subst (λ (z : ℕ × Edge). keep (leb f) (y ∷ t) ≡ z ∷ keep (leb (z.0 + 1)) (y ∷ t)) p
        (rw (e, lt-leb (y.0 + 1) y.0 (omega arith)) (ap {B = Tree} (λ u. y ∷ u) (above y.0 f t r.0 (omega arith) ∙ sym (above y.0 (y.0 + 1) t r.0 (omega arith)))))

    there : (edge_from t f ≡ Some x → keep (leb f) t ≡ x ∷ keep (leb (x.0 + 1)) t) → leb f y.0 ≡ false → keep (leb f) (y ∷ t) ≡ x ∷ keep (leb (x.0 + 1)) (y ∷ t)
    there rest e =
        let l = leb-false f y.0 e in
        let p : edge_from t f ≡ Some x = rw e at q in
        let m = (reads_through.held t f x p).0 in
        rw (e, lt-leb (x.0 + 1) y.0 (omega arith)) (rest p)

none_kept : (t : Tree) → first? t ≡ None → t ≡ []
none_kept [] q = refl
none_kept (x ∷ t) q = absurd (none_some (sym q))

-- ---- those under a frame

module _ (f : ℕ) where
  floor_under : (k : ℕ) (t : Tree) → Floor k t → Floor k (under t f)
  floor_under k [] l = l
  floor_under k (x ∷ t) l =
      both (eqb x.1.parent f) (λ e. rw e (l.0, floor_under k t l.1)) (λ e. rw e (floor_under k t l.1))

  rising_under : (t : Tree) → Rising t → Rising (under t f)
  rising_under [] r = r
  rising_under (x ∷ t) r =
      both (eqb x.1.parent f) (λ e. rw e (floor_under x.0 t r.0, rising_under t r.1)) (λ e. rw e (rising_under t r.1))

  -- their children rise
  pub under_rises : (t : Tree) → rising t ≡ true → rising (under t f) ≡ true
  under_rises t r = (rising_is (under t f)).1 (rising_under t ((rising_is t).0 r))

  -- each is in the tree, and its parent is the frame
  under_held : (t : Tree) → Rising t → (c : ℕ) (e : Edge) → get (under t f) c ≡ Some e → (get t c ≡ Some e) × (e.parent ≡ f)
  under_held [] r c e q = absurd (none_some q)
  under_held (x ∷ t) r c e q = both (eqb x.1.parent f) (here (under_held t r.1 c e)) (there (under_held t r.1 c e))
    where
      here : (get (under t f) c ≡ Some e → (get t c ≡ Some e) × (e.parent ≡ f)) → eqb x.1.parent f ≡ true → (get (x ∷ t) c ≡ Some e) × (e.parent ≡ f)
      here rest p =
          let g : get (x ∷ under t f) c ≡ Some e = rw p at q in
          both (eqb c x.0)
          (λ s. let h : x.1 ≡ e = cc (rw s at g) in (rw s (ap Some h), ap (λ (z : Edge). z.parent) (sym h) ∙ eqb-true x.1.parent f p))
          (λ s. let z = rest (rw s at g) in (rw s z.0, z.1))

      there : (get (under t f) c ≡ Some e → (get t c ≡ Some e) × (e.parent ≡ f)) → eqb x.1.parent f ≡ false → (get (x ∷ t) c ≡ Some e) × (e.parent ≡ f)
      there rest p =
          let z = rest (rw p at q) in
          both (eqb c x.0)
          (λ s. let l = eqb-true c x.0 s in absurd (none_some (sym (get_floor x.0 c t r.0 (omega arith)) ∙ z.0)))
          (λ s. (rw s z.0, z.1))

-- An edge that is told of those under f from k on: it is in the tree, and behind it those from the next number on are left.
pub record Next (t : Tree) (f k : ℕ) (y : Told) : Type 0 where
  pub edge : Edge
  pub told : y ≡ told_edge (y.child, edge)
  pub held : get t y.child ≡ Some edge
  pub parent : edge.parent ≡ f
  pub left : keep (leb k) (under t f) ≡ (y.child, edge) ∷ keep (leb (y.child + 1)) (under t f)

module _ (t : Tree) (rises : rising t ≡ true) (f k : ℕ) where
  module _ (x : ℕ × Edge) (q : edge_from (under t f) k ≡ Some x) where
    first_held : (get t x.0 ≡ Some x.1) × (x.1.parent ≡ f)
    first_held = under_held f t ((rising_is t).0 rises) x.0 x.1 (reads_through.held (under t f) k x q).1

    -- it is the first from its own child on
    pub first_own : edge_from t x.0 ≡ Some x
    first_own = reads_through.own t x.0 x.1 rises first_held.0

    first_next : Next t f k (told_edge x)
    first_next = record {
      edge = x.1;
      told = refl;
      held = first_held.0;
      parent = first_held.1;
      left = first_kept (under t f) ((rising_is (under t f)).0 (under_rises f t rises)) k x q;
    }

  -- an edge is told
  pub edge_next : (y : Told) → Some y ≡ told (edge_from (under t f) k) → Next t f k y
  edge_next y q = go (edge_from (under t f) k) refl q
    where
      go : (m : Option (ℕ × Edge)) → edge_from (under t f) k ≡ m → Some y ≡ told m → Next t f k y
      go None e h = absurd (none_some (sym h))
      go (Some x) e h = let z : told_edge x ≡ y = cc h in subst (Next t f k) z (first_next x e)

  -- none is told, and none is left
  pub none_next : None ≡ told (edge_from (under t f) k) → keep (leb k) (under t f) ≡ []
  none_next q = go (edge_from (under t f) k) refl q
    where
      go : (m : Option (ℕ × Edge)) → edge_from (under t f) k ≡ m → None ≡ told m → keep (leb k) (under t f) ≡ []
      go None e h = none_kept (keep (leb k) (under t f)) e
      go (Some x) e h = absurd (none_some h)

-- ---- the search for the first

module _ (f k : ℕ) where
  -- the frames of an edge, and whether it stands under f from k on
  abbrev pub frames_of : Told → ℕ × ℕ
  frames_of y = (y.child, y.parent)

  abbrev pub is_under : ℕ × ℕ → Bool
  is_under x = leb k x.0 && eqb x.1 f

  abbrev pub frames_found : Option (ℕ × Edge) → Option (ℕ × ℕ)
  frames_found None = None
  frames_found (Some x) = Some (x.0, x.1.parent)

  -- the search finds the frames of the first
  pub find_under : (t : Tree) → find is_under (map frames_of (map told_edge t)) ≡ frames_found (edge_from (under t f) k)
  find_under [] = refl
  find_under (x ∷ t) =
      both (eqb x.1.parent f)
      (λ e. both (leb k x.0) (λ l. rw (e, l) refl) (λ l. rw (e, l) (find_under t)))
      (λ e. both (leb k x.0) (λ l. rw (e, l) (find_under t)) (λ l. rw (e, l) (find_under t)))

  -- it finds none
  pub none_told : (t : Tree) → None ≡ frames_found (edge_from (under t f) k) → None ≡ told (edge_from (under t f) k)
  none_told t q = go (edge_from (under t f) k) q
    where
      go : (m : Option (ℕ × Edge)) → None ≡ frames_found m → None ≡ told m
      go None h = refl
      go (Some x) h = absurd (none_some h)

  -- it finds one, which is the first from its own child on
  pub own_told : (t : Tree) → rising t ≡ true → (x : ℕ × ℕ) → Some x ≡ frames_found (edge_from (under t f) k) → told (edge_from t x.0) ≡ told (edge_from (under t f) k)
  own_told t rises x q = go (edge_from (under t f) k) refl q
    where
      go : (m : Option (ℕ × Edge)) → edge_from (under t f) k ≡ m → Some x ≡ frames_found m → told (edge_from t x.0) ≡ told m
      go None e h = absurd (none_some (sym h))
      go (Some y) e h =
          let z : x ≡ (y.0, y.1.parent) = cc h in
          ap (λ (v : ℕ × ℕ). told (edge_from t v.0)) z ∙ ap told (first_own t rises f k y e)
