-- Climbs from all rows at once: one step, twice as many, and with as many as there are rows every climb has ended exactly where there is no circle.
use Prim.Native.Nat.{ℕ, zero, suc, ◌+◌, ◌*◌, ◌≤◌, ◌<◌}
use mathlib.Core.Path.{◌≡◌, refl, sym, ap, ◌∙◌, subst}
use mathlib.Core.Bool.{Bool, true, false, ◌||◌}
use Rattle.std.specs.Prelude.{None, Some, Result, Ok, Err, IsTrue, MatchResult, ◌↔◌}
use Rattle.std.specs.Result.{result_unwrap_or}
use Rattle.std.specs.List.{All}
use Rattle.std.proofs.lemmas.List.{get_or_default}
use mathlib.Core.List.{List}
use native.Mathlib.Nat.{zero-add, suc-add}
use native.Mathlib.Omega.{arith}
use lib.ListN.{length, get_or, set, length-set}
use lib.Seq.{get_or-set_same, get_or-set_other}
use lib.Dec.{eqb, leb, ltb}
use lib.Ieee.{Float}
use borrow.Author.Tests.{eq-eqb, eqb-true, eqb-false, leb-true, leb-false, ltb-true, ltb-false}
use Rattle.buffer.specs.Map.{get}
use Rattle.buffer.proofs.Cases.{both, none_some, false_true, bool_ext}
use Rattle.buffer.proofs.Maps.{Rising}
use Rattle.registry.specs.Tree.{Edge, Tree, above, member}
use Rattle.registry.specs.Store.{used_in, parent_in, row_at, tree_of}
use Rattle.registry.specs.Sound.{climb, no_circle, NotAboveItself}
use Rattle.registry.specs.Calls.{store_of}
use Rattle.registry.specs.layout.Rows.{head_of, child_at, RisingRows, IsRow, AbsentAt}
use Rattle.registry.specs.soundness.Climbs.{IsUp, Climbed, jump, jump_at, jumped}
use Rattle.registry.proofs.paths.Climbing.{edge_or, climb_none, climb_more, apart_grounded}
use Rattle.registry.proofs.soundness.NoCircle.{circle_grounded, grounded_circle}
use Rattle.registry.proofs.layout.TreeRows.{length_tree, tree_rises, get_found, row_of, get_absent}

-- ---- climbs

module _ (t : Tree) where
  climb_up : (n f : ℕ) (e : Edge) → get t f ≡ Some e → climb (suc n) t f ≡ climb n t e.parent
  climb_up n f e q = rw q

  climb_add : (m k f : ℕ) → climb k t (climb m t f) ≡ climb (m + k) t f
  climb_add zero k f = rw zero-add
  climb_add (suc m) k f =
      edge_or (get t f)
      (λ q. ap (climb k t) (climb_none t (suc m) f q) ∙ climb_none t k f q ∙ sym (climb_none t (suc m + k) f q))
      (λ e q. ap (climb k t) (climb_up m f e q) ∙ climb_add m k e.parent ∙ sym (climb_up (m + k) f e q) ∙ ap (λ (n : ℕ). climb n t f) (sym (suc-add m k)))

  -- a climb that has ended stays
  climb_past : (m k f : ℕ) → m ≤ k → get t (climb m t f) ≡ None → get t (climb k t f) ≡ None
  climb_past m k f l e = ap (get t) (climb_more t m k f l e) ∙ e

  -- who is above p has a parent above p
  above_parent : (k p f : ℕ) (e : Edge) → get t f ≡ Some e → member f (above k t p) ≡ true → member e.parent (above (suc k) t p) ≡ true
  above_parent zero p f e q h = absurd (false_true h)
  above_parent (suc k) p f e q h =
      edge_or (get t p)
      (λ z. absurd (false_true (rw z at h)))
      (λ d z.
      rw z
      (both (eqb f d.parent)
      (λ s. let w : get t d.parent ≡ Some e = ap (get t) (sym (eqb-true f d.parent s)) ∙ q in
      rw (w, eq-eqb e.parent e.parent refl) (or_true (eqb e.parent d.parent)))
      (λ s. or_right (eqb e.parent d.parent) _ (above_parent k d.parent f e q (rw s at (rw z at h))))))
    where
      or_true : (b : Bool) → (b || true) ≡ true
      or_true true = refl
      or_true false = refl

      or_right : (a b : Bool) → b ≡ true → (a || b) ≡ true
      or_right true b h = refl
      or_right false b h = h

  -- who is above itself has a parent above itself
  again : (k f : ℕ) (e : Edge) → get t f ≡ Some e → member f (above (suc k) t f) ≡ true → member e.parent (above (suc k) t e.parent) ≡ true
  again k f e q m =
      both (eqb f e.parent)
      (λ s.
      let w : get t e.parent ≡ Some e = ap (get t) (sym (eqb-true f e.parent s)) ∙ q in
      rw (w, eq-eqb e.parent e.parent refl))
      (λ s. above_parent k e.parent f e q (rw s at (rw q at m)))

  -- whose climb ends is not above itself
  ends_apart : (n f : ℕ) → get t (climb n t f) ≡ None → (k : ℕ) → member f (above k t f) ≡ false
  ends_apart n f h zero = refl
  ends_apart zero f h (suc k) = rw h
  ends_apart (suc n) f h (suc k) =
      edge_or (get t f)
      (λ q. rw q)
      (λ e q.
      both (member f (above (suc k) t f))
      (λ m. absurd (false_true (sym (ends_apart n e.parent (rw q at h) (suc k)) ∙ again k f e q m)))
      (λ m. m))

-- ---- from one row

module _ (h : List ℕ) where
  module _ (rows : RisingRows h) (r : ℕ) (l : r < used_in (head_of h)) where
    one_step : (i : List ℕ) (p : List Float) → climb 1 (tree_of (store_of h i p)) (child_at h r) ≡ parent_in (head_of h) r
    one_step i p =
        let s = store_of h i p in
        climb_up (tree_of s) 0 (child_at h r) (row_at s r).1 (get_found s rows.rises (child_at h r) r (record { used = l; child = refl }))

    up_row : (x : ℕ) → IsRow h (parent_in (head_of h) r) x → IsUp h 1 r x
    up_row x found = record {
      steps = 1;
      enough = omega arith;
      row = λ u i p. found.child ∙ sym (one_step i p);
      root = λ u i p. absurd (omega (arith, found.used));
    }

    up_root : (k : ℕ) → AbsentAt h (parent_in (head_of h) r) k → IsUp h 1 r (used_in (head_of h))
    up_root k absent = record {
      steps = 1;
      enough = omega arith;
      row = λ u i p. absurd (omega arith);
      root = λ u i p. let s = store_of h i p in ap (get (tree_of s)) (one_step i p) ∙ get_absent s (parent_in (head_of h) r) k absent;
    }

    -- by what a search for the parent finds
    pub up_found : (found : Result ℕ ℕ) → MatchResult found (IsRow h (parent_in (head_of h) r)) (AbsentAt h (parent_in (head_of h) r)) → IsUp h 1 r (result_unwrap_or found (used_in (head_of h)))
    up_found (Ok x) m = up_row x m
    up_found (Err k) m = up_root k m

  -- more steps, from the row that was come to
  up_on : (m r x y : ℕ) → x < used_in (head_of h) → IsUp h m r x → IsUp h m x y → IsUp h (m + m) r y
  up_on m r x y l a b =
      let joined : (i : List ℕ) (p : List Float) → climb (a.steps + b.steps) (tree_of (store_of h i p)) (child_at h r) ≡ climb b.steps (tree_of (store_of h i p)) (child_at h x) =
      λ i p. let t : Tree = tree_of (store_of h i p) in sym (climb_add t a.steps b.steps (child_at h r)) ∙ ap (climb b.steps t) (sym (a.row l i p)) in
      record {
        steps = a.steps + b.steps;
        enough = omega (arith, a.enough, b.enough);
        row = λ u i p. b.row u i p ∙ sym (joined i p);
        root = λ u i p. ap (get (tree_of (store_of h i p))) (joined i p) ∙ b.root u i p;
      }

  -- more steps, where the climb has ended
  up_stay : (m r x : ℕ) → used_in (head_of h) ≤ x → IsUp h m r x → IsUp h (m + m) r x
  up_stay m r x l a = record {
    steps = a.steps + m;
    enough = omega (arith, a.enough);
    row = λ u i p. absurd (omega arith);
    root = λ u i p. climb_past (tree_of (store_of h i p)) a.steps (a.steps + m) (child_at h r) (omega arith) (a.root l i p);
  }

  up_less : (m r x : ℕ) → IsUp h (m + m) r x → IsUp h m r x
  up_less m r x a = record { steps = a.steps; enough = omega (arith, a.enough); row = a.row; root = a.root }

-- ---- from all rows

-- what holds of every entry holds after a store of one of which it holds
pub at_set : (P : ℕ → ℕ → Type 0) (l : List ℕ) (k y r : ℕ) → k < length l → P k y → ((r ≡ k → ⊥) → P r (get_or l r 0)) → P r (get_or (set l k y) r 0)
at_set P l k y r u here there =
    both (eqb r k)
    (λ e.
    let q : r ≡ k = eqb-true r k e in
    subst (λ (j : ℕ). P j (get_or (set l k y) j 0)) (sym q) (subst (P k) (sym (get_or-set_same l k y 0 u)) here))
    (λ e. subst (P r) (sym (get_or-set_other l k r y 0 (eqb-false r k e))) (there (eqb-false r k e)))

-- the first k entries have gone at least twice as far
record Partly (h : List ℕ) (m k : ℕ) (l : List ℕ) : Type 0 where
  size : length l ≡ used_in (head_of h)
  twice : (r : ℕ) → r < k → r < used_in (head_of h) → IsUp h (m + m) r (get_or l r 0)
  once : (r : ℕ) → r < used_in (head_of h) → IsUp h m r (get_or l r 0)

module _ (h : List ℕ) (m : ℕ) where
  -- entry k goes on
  far : (k : ℕ) (l : List ℕ) → k < used_in (head_of h) → Partly h m k l → IsUp h (m + m) k (jump l (get_or l k 0))
  far k l u a =
      let x : ℕ = get_or l k 0 in
      both (ltb x (length l))
      (λ e. rw e (up_on h m k x (get_or l x 0) (omega (arith, ltb-true x (length l) e, a.size)) (a.once k u) (a.once x (omega (arith, ltb-true x (length l) e, a.size)))))
      (λ e. rw e (up_stay h m k x (omega (arith, ltb-false x (length l) e, a.size)) (a.once k u)))

  partly_more : (k : ℕ) (l : List ℕ) → k < used_in (head_of h) → Partly h m k l → Partly h m (suc k) (jump_at l k)
  partly_more k l u a =
      let y : ℕ = jump l (get_or l k 0) in
      let v : k < length l = omega (arith, a.size) in
      let gone : IsUp h (m + m) k y = far k l u a in
      record {
        size = length-set l k y ∙ a.size;
        twice = λ r v₁ w. at_set (λ (r x : ℕ). IsUp h (m + m) r x) l k y r v gone (λ ne. a.twice r (omega arith) w);
        once = λ r w. at_set (λ (r x : ℕ). IsUp h m r x) l k y r v (up_less h m k y gone) (λ ne. a.once r w);
      }

  partly_upto : (k : ℕ) (l : List ℕ) → k ≤ used_in (head_of h) → Climbed h m l → Partly h m k (jumped k l)
  partly_upto zero l u a = record { size = a.size; twice = λ r v w. absurd (omega arith); once = a.up }
  partly_upto (suc k) l u a = partly_more k (jumped k l) u (partly_upto k l (omega arith) a)

  -- every entry goes on
  pub climbed_twice : (l l' : List ℕ) → l' ≡ jumped (length l) l → Climbed h m l → Climbed h (m * 2) l'
  climbed_twice l l' e a =
      let b = partly_upto (length l) l (omega (arith, a.size)) a in
      let q : m + m ≡ m * 2 = omega arith in
      rw (e, ← q) (record { size = b.size; up = λ r u. b.twice r (omega (arith, a.size)) u })

-- ---- the end

module _ (h : List ℕ) (rows : RisingRows h) (m : ℕ) (l : List ℕ) (a : Climbed h m l) (enough : used_in (head_of h) ≤ m) (i : List ℕ) (p : List Float) where
  abbrev t : Tree
  t = tree_of (store_of h i p)

  rises : Rising t
  rises = (tree_rises (store_of h i p)).0 rows.rises

  -- every climb ends, so no frame is above itself
  ended_apart : All (λ x. length l ≤ x) l → NotAboveItself t
  ended_apart e k f = edge_or (get t f) (λ q. ends_apart t 0 f q k) child
    where
      child : (d : Edge) → get t f ≡ Some d → member f (above k t f) ≡ false
      child d q =
          let found = row_of (store_of h i p) f d q in
          let r : ℕ = found.0 in
          let past : length l ≤ get_or l r 0 = e r 0 (omega (arith, a.size, found.1.used)) in
          let up = a.up r found.1.used in
          ends_apart t up.steps f (ap (λ (x : ℕ). get t (climb up.steps t x)) (sym found.1.child) ∙ up.root (omega (arith, a.size)) i p) k

  -- without a circle every climb has ended
  past_rows : no_circle t ≡ true → All (λ x. length l ≤ x) l
  past_rows e r d u =
      let x : ℕ = get_or l r 0 in
      let up = a.up r (omega (arith, a.size)) in
      both (leb (length l) x)
      (λ q. rw (get_or_default l r d 0 u) (leb-true (length l) x q))
      (λ q.
      let v : x < used_in (head_of h) = omega (arith, leb-false (length l) x q, a.size) in
      let at_row : get t (child_at h x) ≡ Some (row_at (store_of h i p) x).1 = get_found (store_of h i p) rows.rises (child_at h x) x (record { used = v; child = refl }) in
      let ended : get t (climb up.steps t (child_at h r)) ≡ None =
      climb_past t (length t) up.steps (child_at h r) (omega (arith, length_tree (store_of h i p), up.enough)) (circle_grounded t rises e (child_at h r)) in
      absurd (none_some (sym ended ∙ ap (get t) (sym (up.row v i p)) ∙ at_row)))

  pub ended_is : (ended : Bool) → (IsTrue ended ↔ All (λ x. length l ≤ x) l) → ended ≡ no_circle t
  ended_is ended e =
      bool_ext ended (no_circle t)
      (λ q. grounded_circle t rises (apart_grounded t (ended_apart (e.0 q))))
      (λ q. e.1 (past_rows q))
