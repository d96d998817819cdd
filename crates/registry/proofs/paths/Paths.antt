-- Connected frames that differ are known, and what is asked of known ones is answered from the hops of their path.
use Prim.Native.Nat.{ℕ, zero, suc}
use mathlib.Core.Path.{◌≡◌, refl, sym, ap, subst⁻¹, ◌∙◌}
use mathlib.Core.Bool.{Bool, true, false, cond, not}
use Rattle.std.specs.Prelude.{None, Some}
use mathlib.Core.List.{List, [], ◌∷◌, ◌++◌}
use lib.ListN.{length}
use lib.Dec.{eqb}
use borrow.Author.Tests.{eq-eqb, ne_eqb, eqb-true, eqb-false}
use Rattle.time.specs.Reply.{Reply, answer, frame, refuse}
use Rattle.buffer.specs.Map.{all, get, rising}
use Rattle.buffer.proofs.Cases.{both, none_some, false_true}
use Rattle.buffer.proofs.Maps.{rising_is}
use Rattle.buffer.proofs.Alls.{all_get}
use Rattle.registry.specs.Tree.{Edge, Tree, above, member}
use Rattle.registry.specs.Answers.{Value}
use Rattle.registry.specs.Path.{Hop, chain, any, side, connected, hops, is_parent, known, ask}
use Rattle.registry.specs.PathLaws.{TwoKnown, ConnectedAreKnown, Every, Placed}
use Rattle.registry.proofs.paths.Climbing.{edge_or}
use Rattle.registry.proofs.paths.Ancestors.{some_in}

-- ---- lists of frames

pub any_elim : (p : ℕ → Bool) (xs : List ℕ) → any p xs ≡ true → (y : ℕ) × (member y xs ≡ true) × (p y ≡ true)
any_elim p [] h = absurd (false_true h)
any_elim p (x ∷ xs) h =
    both (p x)
    (λ e. (x, rw (eq-eqb x x refl), e))
    (λ e. let found = any_elim p xs (rw e at h) in (found.0, both (eqb found.0 x) (λ s. rw s) (λ s. rw s found.1), found.2))

pub any_intro : (p : ℕ → Bool) (xs : List ℕ) (y : ℕ) → member y xs ≡ true → p y ≡ true → any p xs ≡ true
any_intro p [] y h q = absurd (false_true h)
any_intro p (x ∷ xs) y h q =
    both (eqb y x)
    (λ e. rw (ap p (sym (eqb-true y x e)) ∙ q))
    (λ e. both (p x) (λ s. rw s) (λ s. rw s (any_intro p xs y (rw e at h) q)))

-- ---- connected frames

pub connected_sym : (t : Tree) (f g : ℕ) → connected t f g ≡ true → connected t g f ≡ true
unfolding connected
connected_sym t f g h =
    let found = any_elim (λ x. member x (chain t g)) (chain t f) h in
    any_intro (λ x. member x (chain t f)) (chain t g) found.0 found.2 found.1

parent_in : (t : Tree) (x : ℕ) (e : Edge) → get t x ≡ Some e → is_parent e.parent t ≡ true
parent_in [] x e q = absurd (none_some q)
parent_in (y ∷ t) x e q =
    both (eqb x y.0)
    (λ s. rw (eq-eqb y.1.parent e.parent (ap (λ (d : Edge). d.parent) (some_in (rw s at q)))))
    (λ s. both (eqb y.1.parent e.parent) (λ z. rw z) (λ z. rw z (parent_in t x e (rw s at q))))

above_parent : (t : Tree) (n g f : ℕ) → member f (above n t g) ≡ true → is_parent f t ≡ true
above_parent t zero g f h = absurd (false_true h)
above_parent t (suc n) g f h =
    edge_or (get t g)
    (λ q. absurd (false_true (rw q at h)))
    (λ e q.
    both (eqb f e.parent)
    (λ s. ap (λ (x : ℕ). is_parent x t) (eqb-true f e.parent s) ∙ parent_in t g e q)
    (λ s. above_parent t n e.parent f (rw s at (rw q at h))))

above_none : (t : Tree) (n f : ℕ) → get t f ≡ None → above n t f ≡ []
above_none t zero f q = refl
above_none t (suc n) f q = rw q

-- whoever is connected with another frame is known
connected_known : (t : Tree) (f g : ℕ) → (f ≡ g → ⊥) → connected t f g ≡ true → known t f ≡ true
unfolding connected
connected_known t f g d m =
    edge_or (get t f)
    (λ q.
    let found = any_elim (λ x. member x (chain t g)) (chain t f) m in
    let here : found.0 ≡ f = only found.0 q found.1 in
    rw q (above_parent t (length t) g f (rw (ne_eqb f g d) at (ap (λ (x : ℕ). member x (chain t g)) (sym here) ∙ found.2))))
    (λ e q. rw q refl)
  where
    only : (y : ℕ) → get t f ≡ None → member y (chain t f) ≡ true → y ≡ f
    only y q i = both (eqb y f) (λ s. eqb-true y f s) (λ s. absurd (false_true (rw (above_none t (length t) f q) at (rw s at i))))

pub connected_are_known : ConnectedAreKnown
connected_are_known t f g d m = record { target = connected_known t f g d m; source = connected_known t g f (λ e. d (sym e)) (connected_sym t f g m) }

-- of connected frames both are known where the target is
pub known_connected : (t : Tree) (f g : ℕ) → known t f ≡ true → connected t f g ≡ true → TwoKnown t f g
known_connected t f g k m =
    both (eqb f g)
    (λ e. record { target = k; source = ap (known t) (sym (eqb-true f g e)) ∙ k })
    (λ e. connected_are_known t f g (eqb-false f g e) m)

-- a frame and itself are connected, and their path is empty
connected_same : (t : Tree) (f : ℕ) → connected t f f ≡ true
unfolding connected
connected_same t f = rw (eq-eqb f f refl)

pub side_same : (t : Tree) (f : ℕ) → side t f f ≡ []
unfolding side
side_same t f = rw (eq-eqb f f refl)

-- ---- what is asked

module _ (same : Value) (along apart : List Hop → List Hop → Reply Value) (t : Tree) (f g : ℕ) where
  pub ask_connected : connected t f g ≡ true
      → ask t f g same along apart
      ≡ refuse (not (known t f)) 9 (frame f)
      (refuse (not (known t g)) 9 (frame g) (cond (eqb f g) (answer same) (along (hops t (side t f g)) (hops t (side t g f)))))
  unfolding ask
  ask_connected m = rw m

  module _ (k : TwoKnown t f g) where
    -- a frame and itself have the empty path, which gives the same-frame answer
    pub ask_along : along [] [] ≡ answer same → connected t f g ≡ true → ask t f g same along apart ≡ along (hops t (side t f g)) (hops t (side t g f))
    ask_along z m =
        ask_connected m ∙ rw (k.target, k.source)
        (both (eqb f g)
        (λ e. rw (e, ← eqb-true f g e, side_same t f) (sym z))
        (λ e. rw e))

    pub ask_apart : connected t f g ≡ false → ask t f g same along apart ≡ apart (hops t (chain t f)) (hops t (chain t g))
    unfolding ask
    ask_apart m =
        rw (k.target, k.source, m)
        (both (eqb f g)
        (λ e. absurd (false_true (sym m ∙ ap (connected t f) (sym (eqb-true f g e)) ∙ connected_same t f)))
        (λ e. rw e))

-- what every row of a tree passes, every hop passes
pub hops_pass : (test : ℕ × Edge → Bool) (t : Tree) → rising t ≡ true → all test t ≡ true → (xs : List ℕ) → Every (λ h. test h ≡ true) (hops t xs)
hops_pass test t r k [] = tt
hops_pass test t r k (x ∷ xs) =
    edge_or (get t x)
    (λ q. rw q (hops_pass test t r k xs))
    (λ e q. rw q ((all_get test t ((rising_is t).0 r)).0 k x e q, hops_pass test t r k xs))

-- ---- lists of hops

pub every_unit : (hs : List Hop) → Every (λ x. Unit {0}) hs
every_unit [] = tt
every_unit (h ∷ hs) = (tt, every_unit hs)

pub every_map : {P Q : Hop → Type 0} → ((h : Hop) → P h → Q h) → (hs : List Hop) → Every P hs → Every Q hs
every_map w [] k = tt
every_map w (h ∷ hs) k = (w h k.0, every_map w hs k.1)

pub every_here : (P : Hop → Type 0) (before : List Hop) (h : Hop) (after : List Hop) → Every P (before ++ (h ∷ after)) → P h
every_here P [] h after k = k.0
every_here P (x ∷ before) h after k = every_here P before h after k.1

pub every_append : (P : Hop → Type 0) (xs ys : List Hop) → Every P xs → Every P ys → Every P (xs ++ ys)
every_append P [] ys k l = l
every_append P (x ∷ xs) ys k l = (k.0, every_append P xs ys k.1 l)

module _ (P Q : Hop → Type 0) (h : Hop) where
  -- one more hop, before the others
  pub placed_behind : (x : Hop) (hs : List Hop) → P x → Placed P h Q hs → Placed P h Q (x ∷ hs)
  placed_behind x hs k p = record {
    before = x ∷ p.before;
    after = p.after;
    place = ap {B = List Hop} (λ r. x ∷ r) p.place;
    earlier = (k, p.earlier);
    later = p.later;
  }

  -- what P, Q and h itself give, every hop has
  pub placed_every : (R : Hop → Type 0) → ((x : Hop) → P x → R x) → R h → ((x : Hop) → Q x → R x) → (hs : List Hop) → Placed P h Q hs → Every R hs
  placed_every R f r g hs p =
      subst⁻¹ (λ (l : List Hop). Every R l) p.place
      (every_append R p.before (h ∷ p.after) (every_map {P = P} {Q = R} f p.before p.earlier) (r, every_map {P = Q} {Q = R} g p.after p.later))
