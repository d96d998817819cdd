-- An edge put into a tree without circles, off the path of two connected frames, leaves them connected and their path as it was.
use Prim.Native.Nat.{ℕ, zero, suc}
use mathlib.Core.Path.{◌≡◌, refl, sym, ap, ◌∙◌, fun_ext}
use mathlib.Core.Bool.{Bool, true, false, ◌||◌}
use Rattle.std.specs.Prelude.{None, Some}
use mathlib.Core.List.{List, [], ◌∷◌, ◌++◌}
use lib.ListN.{length}
use lib.Dec.{eqb}
use borrow.Author.Tests.{eq-eqb, ne_eqb, eqb-true, eqb-false}
use Rattle.buffer.specs.Map.{get, put}
use Rattle.buffer.proofs.Cases.{both, none_some, false_true}
use Rattle.buffer.proofs.Maps.{Rising, get_put_same, get_put_other, length_put_held}
use Rattle.registry.specs.Tree.{Edge, Tree, rise, above, ancestors, member}
use Rattle.registry.specs.Path.{chain, until, any, side, connected}
use Rattle.registry.proofs.paths.Climbing.{Grounded, grounded_ranked, ranked_grounded}
use Rattle.registry.proofs.paths.Ancestors.{ancestors_none, ancestors_some, climb_ind, ranked_new}
use Rattle.registry.proofs.paths.Paths.{any_elim, any_intro}

-- ---- lists of frames

member_append : (y : ℕ) (xs ys : List ℕ) → member y (xs ++ ys) ≡ (member y xs || member y ys)
member_append y [] ys = refl
member_append y (x ∷ xs) ys = both (eqb y x) (λ e. rw e) (λ e. rw e (member_append y xs ys))

until_append : (p : ℕ → Bool) (xs ys : List ℕ) → any p xs ≡ true → until p (xs ++ ys) ≡ until p xs
until_append p [] ys h = absurd (false_true h)
until_append p (x ∷ xs) ys h = both (p x) (λ e. rw e) (λ e. rw e (ap {B = List ℕ} (λ r. x ∷ r) (until_append p xs ys (rw e at h))))

until_cong : (p q : ℕ → Bool) (xs : List ℕ) → ((y : ℕ) → member y xs ≡ true → p y ≡ q y) → until p xs ≡ until q xs
until_cong p q [] h = refl
until_cong p q (x ∷ xs) h =
    rw (h x (rw (eq-eqb x x refl)))
    (both (q x) (λ e. rw e) (λ e. rw e (ap {B = List ℕ} (λ r. x ∷ r) (until_cong p q xs (λ y m. h y (both (eqb y x) (λ s. rw s) (λ s. rw s m)))))))

-- ---- trees that climb alike

module _ (t u : Tree) (same : (f : ℕ) → ancestors u f ≡ ancestors t f) where
  side_alike : (f g : ℕ) → side u f g ≡ side t f g
  unfolding side
  side_alike f g = λ i. until (λ x. member x (g ∷ same g i)) (f ∷ same f i)

  connected_alike : (f g : ℕ) → connected u f g ≡ connected t f g
  unfolding connected
  connected_alike f g = λ i. any (λ x. member x (g ∷ same g i)) (f ∷ same f i)

-- ---- an edge that keeps its parent

above_held : (t : Tree) (c : ℕ) (e d : Edge) → get t c ≡ Some e → d.parent ≡ e.parent → (n f : ℕ) → above n (put c d t) f ≡ above n t f
above_held t c e d q s zero f = refl
above_held t c e d q s (suc n) f =
    both (eqb f c)
    (λ w.
    rw (eqb-true f c w, get_put_same c d t, q)
    (ap {B = List ℕ} (λ x. x ∷ above n (put c d t) x) s ∙ ap {B = List ℕ} (λ rest. e.parent ∷ rest) (above_held t c e d q s n e.parent)))
    (λ w. rw (get_put_other c f d t (eqb-false f c w)) (ap (rise (get t f)) (fun_ext (λ p. above_held t c e d q s n p))))

ancestors_held : (t : Tree) (c : ℕ) (e d : Edge) → Rising t → get t c ≡ Some e → d.parent ≡ e.parent → (f : ℕ) → ancestors (put c d t) f ≡ ancestors t f
ancestors_held t c e d r q s f = rw (length_put_held c d e t r q) (above_held t c e d q s (length t) f)

-- ---- a new child

module _ (t : Tree) (g : Grounded t) (c : ℕ) (d : Edge) (n : get t c ≡ None) (h : member c (chain t d.parent) ≡ false) where
  abbrev new : Tree
  new = put c d t

  grounded_new : Grounded new
  grounded_new = ranked_grounded new _ (ranked_new t _ (grounded_ranked t g) c d n h)

  step_new : (f : ℕ) (e : Edge) → get t f ≡ Some e → ancestors new f ≡ e.parent ∷ ancestors new e.parent
  step_new f e q = ancestors_some new grounded_new f e (get_put_other c f d t (λ s. none_some (sym n ∙ ap (get t) (sym s) ∙ q)) ∙ q)

  -- a frame that is no child stands on a climb where it stands on the climb from any frame of it
  through : (y f : ℕ) → member y (chain t f) ≡ true → member c (chain t f) ≡ member c (chain t y)
  through y = climb_ind t _ (grounded_ranked t g) (λ f. member y (chain t f) ≡ true → member c (chain t f) ≡ member c (chain t y)) base step
    where
      base : (f : ℕ) → get t f ≡ None → member y (chain t f) ≡ true → member c (chain t f) ≡ member c (chain t y)
      base f q m = both (eqb y f) (λ s. ap (λ (x : ℕ). member c (chain t x)) (sym (eqb-true y f s))) (λ s. absurd (false_true (rw (s, ancestors_none t g f q) at m)))

      step : (f : ℕ) (e : Edge) → get t f ≡ Some e → (member y (chain t e.parent) ≡ true → member c (chain t e.parent) ≡ member c (chain t y))
          → member y (chain t f) ≡ true → member c (chain t f) ≡ member c (chain t y)
      step f e q ih m =
          both (eqb y f)
          (λ s. ap (λ (x : ℕ). member c (chain t x)) (sym (eqb-true y f s)))
          (λ s. rw (ne_eqb c f (λ z. none_some (sym n ∙ ap (get t) z ∙ q)), ancestors_some t g f e q) (ih (rw (s, ancestors_some t g f e q) at m)))

  -- a climb that does not come to the new child is as it was
  aside : (f : ℕ) → member c (chain t f) ≡ false → chain new f ≡ chain t f
  aside = climb_ind t _ (grounded_ranked t g) (λ f. member c (chain t f) ≡ false → chain new f ≡ chain t f) base step
    where
      base : (f : ℕ) → get t f ≡ None → member c (chain t f) ≡ false → chain new f ≡ chain t f
      base f q m =
          let other : f ≡ c → ⊥ = λ s. false_true (sym m ∙ rw (eq-eqb c f (sym s))) in
          ap {B = List ℕ} (λ r. f ∷ r) (ancestors_none new grounded_new f (get_put_other c f d t other ∙ q) ∙ sym (ancestors_none t g f q))

      step : (f : ℕ) (e : Edge) → get t f ≡ Some e → (member c (chain t e.parent) ≡ false → chain new e.parent ≡ chain t e.parent)
          → member c (chain t f) ≡ false → chain new f ≡ chain t f
      step f e q ih m =
          let up : member c (chain t e.parent) ≡ false = rw (ne_eqb c f (λ z. none_some (sym n ∙ ap (get t) z ∙ q)), ancestors_some t g f e q) at m in
          ap {B = List ℕ} (λ r. f ∷ r) (step_new f e q ∙ ih up ∙ sym (ancestors_some t g f e q))

  -- a climb that comes to the new child goes on from there
  under : (f : ℕ) → member c (chain t f) ≡ true → chain new f ≡ chain t f ++ chain t d.parent
  under = climb_ind t _ (grounded_ranked t g) (λ f. member c (chain t f) ≡ true → chain new f ≡ chain t f ++ chain t d.parent) base step
    where
      base : (f : ℕ) → get t f ≡ None → member c (chain t f) ≡ true → chain new f ≡ chain t f ++ chain t d.parent
      base f q m =
          both (eqb c f)
          (λ s.
          let this : c ≡ f = eqb-true c f s in
          rw (ancestors_none t g f q, ← this)
          (ap {B = List ℕ} (λ r. c ∷ r) (ancestors_some new grounded_new c d (get_put_same c d t) ∙ aside d.parent h)))
          (λ s. absurd (false_true (rw (s, ancestors_none t g f q) at m)))

      step : (f : ℕ) (e : Edge) → get t f ≡ Some e → (member c (chain t e.parent) ≡ true → chain new e.parent ≡ chain t e.parent ++ chain t d.parent)
          → member c (chain t f) ≡ true → chain new f ≡ chain t f ++ chain t d.parent
      step f e q ih m =
          let up : member c (chain t e.parent) ≡ true = rw (ne_eqb c f (λ z. none_some (sym n ∙ ap (get t) z ∙ q)), ancestors_some t g f e q) at m in
          ap {B = List ℕ} (λ r. f ∷ r)
          (step_new f e q ∙ ih up ∙ ap {B = List ℕ} (λ (l : List ℕ). l ++ chain t d.parent) (sym (ancestors_some t g f e q)))

  -- two climbs that meet both come to the new child or neither does
  together : (x y : ℕ) → connected t x y ≡ true → member c (chain t x) ≡ member c (chain t y)
  unfolding connected
  together x y m =
      let found = any_elim (λ z. member z (chain t y)) (chain t x) m in
      through found.0 x found.1 ∙ sym (through found.0 y found.2)

  -- what stands below the new child does not stand above it
  below : (f y : ℕ) → member c (chain t f) ≡ true → member y (chain t f) ≡ true → member y (chain t d.parent) ≡ false
  below f y s m =
      both (member y (chain t d.parent))
      (λ w. absurd (false_true (sym h ∙ through y d.parent w ∙ sym (through y f m) ∙ s)))
      (λ w. w)

  in_more : (x y : ℕ) → member y (chain t x) ≡ true → member y (chain t x ++ chain t d.parent) ≡ true
  in_more x y m = member_append y (chain t x) (chain t d.parent) ∙ rw m

  side_new : (x y : ℕ) → connected t x y ≡ true → side new x y ≡ side t x y
  unfolding side connected
  side_new x y m =
      both (member c (chain t x))
      (λ s.
      let sy : member c (chain t y) ≡ true = sym (together x y m) ∙ s in
      let found = any_elim (λ z. member z (chain t y)) (chain t x) m in
      (λ i. until (λ z. member z (under y sy i)) (under x s i))
      ∙ until_append (λ z. member z (chain t y ++ chain t d.parent)) (chain t x) (chain t d.parent)
      (any_intro (λ z. member z (chain t y ++ chain t d.parent)) (chain t x) found.0 found.1 (in_more y found.0 found.2))
      ∙ until_cong (λ z. member z (chain t y ++ chain t d.parent)) (λ z. member z (chain t y)) (chain t x) (alike s))
      (λ s. let sy : member c (chain t y) ≡ false = sym (together x y m) ∙ s in λ i. until (λ z. member z (aside y sy i)) (aside x s i))
    where
      alike : member c (chain t x) ≡ true → (z : ℕ) → member z (chain t x) ≡ true → member z (chain t y ++ chain t d.parent) ≡ member z (chain t y)
      alike s z i = member_append z (chain t y) (chain t d.parent) ∙ rw (below x z s i) (both (member z (chain t y)) (λ w. rw w) (λ w. rw w))

  connected_new : (x y : ℕ) → connected t x y ≡ true → connected new x y ≡ true
  unfolding connected
  connected_new x y m =
      both (member c (chain t x))
      (λ s.
      let sy : member c (chain t y) ≡ true = sym (together x y m) ∙ s in
      let found = any_elim (λ z. member z (chain t y)) (chain t x) m in
      (λ i. any (λ z. member z (under y sy i)) (under x s i))
      ∙ any_intro (λ z. member z (chain t y ++ chain t d.parent)) (chain t x ++ chain t d.parent) found.0
      (in_more x found.0 found.1) (in_more y found.0 found.2))
      (λ s. let sy : member c (chain t y) ≡ false = sym (together x y m) ∙ s in (λ i. any (λ z. member z (aside y sy i)) (aside x s i)) ∙ m)

-- ---- the path

-- the tree u connects f and g by the frames that t connects them by
pub record Kept (t u : Tree) (f g : ℕ) : Type 0 where
  pub connects : connected u f g ≡ true
  pub frames : side u f g ≡ side t f g

pub kept_held : (t : Tree) (c : ℕ) (e d : Edge) → Rising t → get t c ≡ Some e → d.parent ≡ e.parent
    → (x y : ℕ) → connected t x y ≡ true → Kept t (put c d t) x y
kept_held t c e d r q p x y m =
    let alike = ancestors_held t c e d r q p in
    record { connects = connected_alike t (put c d t) alike x y ∙ m; frames = side_alike t (put c d t) alike x y }

pub kept_new : (t : Tree) (c : ℕ) (d : Edge) → Grounded t → get t c ≡ None → member c (chain t d.parent) ≡ false
    → (x y : ℕ) → connected t x y ≡ true → Kept t (put c d t) x y
kept_new t c d g n h x y m = record { connects = connected_new t g c d n h x y m; frames = side_new t g c d n h x y m }
