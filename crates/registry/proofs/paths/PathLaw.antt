-- The path law, of any question that is asked along a path, and so of lookup and latest common time.
use Prim.Native.Nat.{ℕ}
use mathlib.Core.Path.{◌≡◌, refl, sym, ap, ◌∙◌}
use mathlib.Core.Bool.{Bool, true, false, cond, not}
use Rattle.std.specs.Prelude.{Option, None, Some}
use mathlib.Core.List.{List, [], ◌∷◌, ◌++◌}
use lib.Dec.{eqb}
use borrow.Author.Tests.{ne_eqb, eqb-true, eqb-false}
use Rattle.time.specs.Reply.{Reply, answer, refusal, nothing, frame, refuse, ◌then◌}
use Rattle.geometry.specs.Isometry.{identity}
use Rattle.buffer.specs.Map.{get, put}
use Rattle.buffer.proofs.Cases.{both, none_some, false_true}
use Rattle.buffer.proofs.Maps.{Rising, rising_is, get_put_other}
use Rattle.registry.specs.Tree.{Edge, Tree, member, updated_edge}
use Rattle.registry.specs.Answers.{Value, pose, static}
use Rattle.registry.specs.Path.{chain, until, any, Hop, hop_then, hops, side, connected, known, ask, lookup_along, lookup_apart, lookup, spans, meet, common_time}
use Rattle.registry.specs.PathLaws.{path, TwoKnown, Every, OffPath, SameAnswers, PathLaw, PathLawWipe}
use Rattle.registry.proofs.paths.Climbing.{Grounded, grounded_ranked}
use Rattle.registry.proofs.soundness.NoCircle.{circle_grounded}
use Rattle.registry.proofs.paths.Ancestors.{ancestors_none, ancestors_some, climb_ind}
use Rattle.registry.proofs.addition.Accepted.{Accepted, add_accepted}
use Rattle.registry.proofs.remove_before.Wiped.{wipe_accepted}
use Rattle.registry.proofs.paths.Paths.{connected_sym, ask_connected}
use Rattle.registry.proofs.paths.PathKept.{Kept, kept_held, kept_new}
use Rattle.registry.proofs.paths.KnownKept.{known_held, known_new}

-- ---- off the path

every_front : (P : Hop → Type 0) (xs ys : List Hop) → Every P (xs ++ ys) → Every P xs
every_front P [] ys h = tt
every_front P (x ∷ xs) ys h = (h.0, every_front P xs ys h.1)

every_back : (P : Hop → Type 0) (xs ys : List Hop) → Every P (xs ++ ys) → Every P ys
every_back P [] ys h = h
every_back P (x ∷ xs) ys h = every_back P xs ys h.1

-- a child that is no hop's child is none of the frames
not_held : (t : Tree) (c : ℕ) (e : Edge) → get t c ≡ Some e → (xs : List ℕ) → Every (λ h. (h.0 ≡ c → ⊥)) (hops t xs) → member c xs ≡ false
not_held t c e q [] k = refl
not_held t c e q (x ∷ xs) k =
    both (eqb c x)
    (λ s.
    let this : x ≡ c = sym (eqb-true c x s) in
    absurd ((rw (ap (get t) this ∙ q) at k).0 this))
    (λ s. rw s (not_held t c e q xs (rest (get t x) k)))
  where
    rest : (o : Option Edge) → Every (λ h. (h.0 ≡ c → ⊥)) (hop_then x o (hops t xs)) → Every (λ h. (h.0 ≡ c → ⊥)) (hops t xs)
    rest None k = k
    rest (Some e) k = k.1

-- who is no child stands on no side
not_new : (t : Tree) (g : Grounded t) (c : ℕ) → get t c ≡ None → (p : ℕ → Bool) (f : ℕ) → any p (chain t f) ≡ true
    → member c (until p (chain t f)) ≡ false
not_new t g c n p = climb_ind t _ (grounded_ranked t g) (λ f. any p (chain t f) ≡ true → member c (until p (chain t f)) ≡ false) base step
  where
    base : (f : ℕ) → get t f ≡ None → any p (chain t f) ≡ true → member c (until p (chain t f)) ≡ false
    base f q m = both (p f) (λ s. rw s) (λ s. absurd (false_true (rw (s, ancestors_none t g f q) at m)))

    step : (f : ℕ) (e : Edge) → get t f ≡ Some e → (any p (chain t e.parent) ≡ true → member c (until p (chain t e.parent)) ≡ false)
        → any p (chain t f) ≡ true → member c (until p (chain t f)) ≡ false
    step f e q ih m =
        both (p f)
        (λ s. rw s)
        (λ s. rw (s, ne_eqb c f (λ z. none_some (sym n ∙ ap (get t) z ∙ q)), ancestors_some t g f e q) (ih (rw (s, ancestors_some t g f e q) at m)))

hops_put : (t : Tree) (c : ℕ) (d : Edge) (xs : List ℕ) → member c xs ≡ false → hops (put c d t) xs ≡ hops t xs
hops_put t c d [] h = refl
hops_put t c d (x ∷ xs) h =
    both (eqb c x)
    (λ e. absurd (false_true (sym h ∙ rw e)))
    (λ e. rw (get_put_other c x d t (λ s. eqb-false c x e (sym s)), hops_put t c d xs (rw e at h)))

-- ---- the law of what is asked

-- what another edge at c, off the path, leaves as it was, where it leaves the two frames known or unknown
module _ (t : Tree) (c : ℕ) (d : Edge) (f g : ℕ) (target : known (put c d t) f ≡ known t f) (source : known (put c d t) g ≡ known t g)
    (m : connected t f g ≡ true) (forth : Kept t (put c d t) f g) (back : Kept t (put c d t) g f)
    (off : member c (side t f g) ≡ false) (out : member c (side t g f) ≡ false) where
  abbrev after : Tree
  after = put c d t

  target_hops : hops after (side after f g) ≡ hops t (side t f g)
  target_hops = ap (hops after) forth.frames ∙ hops_put t c d (side t f g) off

  source_hops : hops after (side after g f) ≡ hops t (side t g f)
  source_hops = ap (hops after) back.frames ∙ hops_put t c d (side t g f) out

  ask_put : (same : Value) (along apart : List Hop → List Hop → Reply Value) → ask after f g same along apart ≡ ask t f g same along apart
  ask_put same along apart =
      ask_connected same along apart after f g forth.connects
      ∙ (λ i.
      refuse (not (target i)) 9 (frame f)
      (refuse (not (source i)) 9 (frame g) (cond (eqb f g) (answer same) (along (target_hops i) (source_hops i)))))
      ∙ sym (ask_connected same along apart t f g m)

  answers_put : SameAnswers t after f g
  unfolding lookup common_time
  answers_put = record {
    lookups = λ i. ask_put (pose identity) (lookup_along i) (lookup_apart i);
    common_times = ask_put static (λ a b. spans (a ++ b) then meet) (λ a b. refusal 10 nothing);
  }

-- ---- an edge that keeps its parent, and a new one

module _ (t : Tree) (c : ℕ) (d : Edge) (f g : ℕ) (m : connected t f g ≡ true) where
  answers_held : (e : Edge) → Rising t → get t c ≡ Some e → d.parent ≡ e.parent → OffPath t c f g → SameAnswers t (put c d t) f g
  unfolding path
  answers_held e r q p off =
      let kept = kept_held t c e d r q p in
      answers_put t c d f g (known_held f c d t e r q p) (known_held g c d t e r q p) m (kept f g m) (kept g f (connected_sym t f g m))
      (not_held t c e q (side t f g) (every_front (λ h. (h.0 ≡ c → ⊥)) (hops t (side t f g)) (hops t (side t g f)) off))
      (not_held t c e q (side t g f) (every_back (λ h. (h.0 ≡ c → ⊥)) (hops t (side t f g)) (hops t (side t g f)) off))

  answers_new : TwoKnown t f g → Grounded t → get t c ≡ None → member c (chain t d.parent) ≡ false → SameAnswers t (put c d t) f g
  unfolding side connected
  answers_new k gr n h =
      let kept = kept_new t c d gr n h in
      answers_put t c d f g (known_new f c d t n k.target ∙ sym k.target) (known_new g c d t n k.source ∙ sym k.source) m
      (kept f g m) (kept g f (connected_sym t f g m))
      (not_new t gr c n (λ x. member x (chain t g)) f m)
      (not_new t gr c n (λ x. member x (chain t f)) g (connected_sym t f g m))

-- ---- the laws

pub path_law : PathLaw
path_law L t u a r n e f g k m off =
    let acc = add_accepted L t a u e in
    rw acc.left (by (get t a.child) refl acc)
  where
    by : (held : Option Edge) → get t a.child ≡ held → Accepted L t a held u → SameAnswers t (put a.child (updated_edge L.age a held) t) f g
    by None q acc =
        answers_new t a.child (updated_edge L.age a None) f g m k (circle_grounded t ((rising_is t).0 r) n) q
        (rw (ne_eqb a.child a.parent (λ s. eqb-false a.parent a.child acc.apart (sym s))) acc.no_circle)
    by (Some h) q acc = answers_held t a.child (updated_edge L.age a (Some h)) f g m h ((rising_is t).0 r) q refl off

pub path_law_wipe : PathLawWipe
path_law_wipe t u c i r e f g m off =
    let w = wipe_accepted t c i u e in
    rw w.left (answers_held t c w.after f g m w.edge ((rising_is t).0 r) w.held w.parent off)
