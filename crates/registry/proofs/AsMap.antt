-- What an accepted addition and a wipe make of the map from frames to timed poses that a tree is.
use Prim.Native.Nat.{ℕ, ◌+◌, ◌-◌, max, ◌≤◌, ◌<◌}
use mathlib.Core.Path.{◌≡◌, refl, sym, ap, ◌∙◌}
use mathlib.Core.Logic.{◌↔◌, ◌⊎◌, inl, inr}
use mathlib.Core.Bool.{true, cond, not, ◌&&◌}
use Rattle.std.specs.Prelude.{Option, None, Some, option_map}
use mathlib.Core.List.{[], ◌∷◌}
use native.Mathlib.Omega.{arith}
use lib.Dec.{eqb, ltb}
use borrow.Author.Tests.{le-leb, lt-leb, ltb-true, ltb-false, eq-eqb, ne_eqb, eqb-true, eqb-false}
use Rattle.time.specs.declared.stamp.Stamp.{Stamp}
use Rattle.time.specs.declared.stamp.Stamp.TheVariants as stamp
use Rattle.time.specs.Reply.{frame, refusal}
use Rattle.geometry.specs.declared.isometry.Isometry.{Isometry}
use Rattle.buffer.specs.Map.{get, put}
use Rattle.buffer.specs.Samples.{Samples, newest, survives, insert}
use Rattle.buffer.specs.Row.{instants_sound}
use Rattle.buffer.proofs.Cases.{both, none_some, Tri, less, same, more, tri}
use Rattle.buffer.proofs.Maps.{Rising, rising_is, get_put_same, get_put_other}
use Rattle.buffer.proofs.Alls.{all_get}
use Rattle.buffer.proofs.SampleLaws.{newest_top, newest_held, get_insert_lem, insert_empty, insert_single}
use Rattle.buffer.specs.Kind.{kind_of}
use Rattle.registry.specs.Tree.{Edge, Tree, Limits, Addition, instant_of, updated_edge, wiped, wipe}
use Rattle.registry.specs.Laws.{SoundTree}
use Rattle.registry.specs.AsMap.{SameMap, pose_at, view_of, put_in, moving, remove_poses, Newest, older, AddAsMap, WipeAsMap, WipeRefused}
use Rattle.registry.specs.Sound.{sound}
use Rattle.registry.proofs.addition.Accepted.{Suits, add_accepted}
use Rattle.registry.proofs.remove_before.Wiped.{wipe_accepted}
use Rattle.registry.proofs.ViewFixes.{single_row, row_rises}

-- a tree with the edge d at c: what it has of any frame is told of d, or of that frame in the tree before
at_put : {A : Type 0} (look : Option Edge → A) (c : ℕ) (d : Edge) (t : Tree) (f : ℕ) → look (get (put c d t) f) ≡ cond (eqb f c) (look (Some d)) (look (get t f))
at_put look c d t f =
    both (eqb f c)
    (λ e. rw (e, eqb-true f c e, get_put_same c d t))
    (λ e. rw (e, get_put_other c f d t (eqb-false f c e)))

-- ---- wipe

pub wipe_as_map : WipeAsMap
unfolding view_of remove_poses
wipe_as_map t u f i e =
    let w = wipe_accepted t f i u e in
    let d = w.after in
    rw w.left
    (record {
      parents = λ g. at_put (option_map (λ e. e.parent)) f d t g ∙ both (eqb g f) (λ s. rw (s, eqb-true g f s, w.held, w.parent)) (λ s. rw s);
      kinds = λ g. at_put (option_map (λ e. e.kind)) f d t g ∙ both (eqb g f) (λ s. rw (s, eqb-true g f s, w.held, w.kind)) (λ s. rw s);
      poses = λ g j. at_put (pose_at j) f d t g ∙ both (eqb g f) (λ s. rw (s, eqb-true g f s, w.held) (w.poses j)) (λ s. rw s);
    })

pub wipe_refused : WipeRefused
unfolding wipe view_of
wipe_refused t f i k c = by (get t f)
  where
    by : (held : Option Edge) → (wiped f i t held ≡ refusal k c) ↔ ((k ≡ 9) × (c ≡ frame f) × (option_map (λ e. e.parent) held ≡ None))
    by None = (λ z. ((cc), (cc), refl), λ z. λ j. refusal (sym z.0 j) (sym z.1 j))
    by (Some h) = (λ z. absurd (let o : ◌≡◌ {A = ℕ} 0 1 = cc z in omega arith), λ z. absurd (none_some (sym z.2)))

-- ---- addition

-- a child's samples, if it is held
abbrev row_of : Option Edge → Samples
row_of None = []
row_of (Some e) = e.samples

pose_in_lem : (i : ℕ) (held : Option Edge) → pose_at i held ≡ get (row_of held) i
pose_in_lem i None = refl
pose_in_lem i (Some e) = refl

updated_row : (age : Option ℕ) (a : Addition) (held : Option Edge) → (updated_edge age a held).samples ≡ insert age (instant_of a.stamp) a.pose (row_of held)
updated_row age a None = refl
updated_row age a (Some e) = refl

updated_parent : (age : Option ℕ) (a : Addition) (held : Option Edge) → Suits held a → (updated_edge age a held).parent ≡ a.parent
updated_parent age a None s = refl
updated_parent age a (Some e) s = s.0

updated_kind : (age : Option ℕ) (a : Addition) (held : Option Edge) → Suits held a → (updated_edge age a held).kind ≡ kind_of a.stamp
updated_kind age a None s = refl
updated_kind age a (Some e) s = s.1

-- what survives is not older
survives_older : (age : Option ℕ) (n i : ℕ) → survives age n i ≡ not (older age n i)
survives_older None n i = refl
survives_older (Some a) n i =
    both (ltb (i + a) n)
    (λ e. let l = ltb-true (i + a) n e in rw (e, lt-leb (n - a) i (omega arith)))
    (λ e. let l = ltb-false (i + a) n e in rw (e, le-leb (n - a) i (omega arith)))

-- a row that a pose of this stamp may join: a static one is empty or holds a single pose at instant 0
abbrev Joins : Stamp → Samples → Type 0
Joins stamp.Static m = (m ≡ []) ⊎ ((p : Isometry) × (m ≡ (0, p) ∷ []))
Joins (stamp.At i) m = Unit {0}

inserted : (age : Option ℕ) (s : Stamp) (p : Isometry) (m : Samples) → Joins s m → (j : ℕ)
    → get (insert age (instant_of s) p m) j
    ≡ cond (moving (Some (kind_of s)) && older age (max (instant_of s) (newest m)) j) None (cond (eqb j (instant_of s)) (Some p) (get m j))
inserted age stamp.Static p m (inl e) j = rw (e, insert_empty age 0 p)
inserted age stamp.Static p m (inr e) j = rw (e.1, insert_single age 0 e.0 p) (both (eqb j 0) (λ s. rw s) (λ s. rw s))
inserted age (stamp.At i) p m w j =
    get_insert_lem age i p m j
    ∙ rw (survives_older age (max i (newest m)) j)
    (both (older age (max i (newest m)) j)
    (λ e. rw e)
    (λ e. rw e (both (eqb j i) (λ s. rw (s, eq-eqb i j (sym (eqb-true j i s)))) (λ s. rw (s, ne_eqb i j (λ z. eqb-false j i s (sym z)))))))

row_held : (m : Samples) → Rising m → 0 < newest m → (p : Isometry) × (get m (newest m) ≡ Some p)
row_held [] r l = absurd (omega arith)
row_held (x ∷ m) r l = newest_held x m r

module _ (t : Tree) (a : Addition) (held : Option Edge) (q : get t a.child ≡ held) where
  abbrev instant : ℕ
  instant = instant_of a.stamp

  abbrev latest : ℕ
  latest = max instant (newest (row_of held))

  newest_in : Rising (row_of held) → Newest (put_in a (view_of t)) a.child latest
  unfolding put_in view_of
  newest_in r = record { held = there (tri instant (newest (row_of held))); top = top }
    where
      there : Tri instant (newest (row_of held))
          → (p : Isometry) × (cond (eqb a.child a.child && eqb latest instant) (Some a.pose) (pose_at latest (get t a.child)) ≡ Some p)
      there (less l) =
          let e : latest ≡ newest (row_of held) = omega arith in
          let found = row_held (row_of held) r (omega arith) in
          (found.0, rw (eq-eqb a.child a.child refl, ne_eqb latest instant (λ z. omega arith), q) (pose_in_lem latest held ∙ ap (get (row_of held)) e ∙ found.1))
      there (same l) = (a.pose, rw (eq-eqb a.child a.child refl, eq-eqb latest instant (omega arith)))
      there (more l) = (a.pose, rw (eq-eqb a.child a.child refl, eq-eqb latest instant (omega arith)))

      top : (i : ℕ) (p : Isometry) → cond (eqb a.child a.child && eqb i instant) (Some a.pose) (pose_at i (get t a.child)) ≡ Some p → i ≤ latest
      top i p h =
          both (eqb i instant)
          (λ e. let z = eqb-true i instant e in omega arith)
          (λ e.
          let g : get (row_of held) i ≡ Some p = sym (pose_in_lem i held) ∙ (rw (eq-eqb a.child a.child refl, e, q) at h) in
          let l = newest_top (row_of held) i p g in
          omega arith)

  module _ (age : Option ℕ) (s : Suits held a) (j : Joins a.stamp (row_of held)) where
    abbrev new_edge : Edge
    new_edge = updated_edge age a held

    added_view : SameMap (view_of (put a.child new_edge t)) (remove_poses a.child (older age latest) (put_in a (view_of t)))
    unfolding put_in view_of remove_poses
    added_view = record {
      parents = λ f.
          at_put (option_map (λ e. e.parent)) a.child new_edge t f
          ∙ both (eqb f a.child) (λ e. rw (e, updated_parent age a held s)) (λ e. rw e);
      kinds = λ f.
          at_put (option_map (λ e. e.kind)) a.child new_edge t f
          ∙ both (eqb f a.child) (λ e. rw (e, updated_kind age a held s)) (λ e. rw e);
      poses = λ f i.
          at_put (pose_at i) a.child new_edge t f
          ∙ both (eqb f a.child)
          (λ e.
          rw (e, eqb-true f a.child e, q, updated_row age a held, pose_in_lem i held)
          (inserted age a.stamp a.pose (row_of held) j i))
          (λ e. rw e);
    }

module _ (L : Limits) (t : Tree) (sound : SoundTree L t) where
  row_sound_lem : (f : ℕ) (h : Edge) → get t f ≡ Some h → instants_sound L.age L.capacity h.kind h.samples ≡ true
  row_sound_lem f h q = (all_get (λ x. instants_sound L.age L.capacity x.1.kind x.1.samples) t ((rising_is t).0 sound.rises)).0 sound.instants f h q

  row_rising : (f : ℕ) (held : Option Edge) → get t f ≡ held → Rising (row_of held)
  row_rising f None q = tt
  row_rising f (Some h) q = (rising_is h.samples).0 (row_rises L.age L.capacity h.kind h.samples (row_sound_lem f h q))

  row_joins : (f : ℕ) (s : Stamp) (held : Option Edge) → get t f ≡ held → ((h : Edge) → held ≡ Some h → h.kind ≡ kind_of s) → Joins s (row_of held)
  row_joins f (stamp.At i) held q k = tt
  row_joins f stamp.Static None q k = inl refl
  row_joins f stamp.Static (Some h) q k = inr (single_row L.age L.capacity h.samples (rw (k h refl) at (row_sound_lem f h q)))

suits_kind : (a : Addition) (held : Option Edge) → Suits held a → (h : Edge) → held ≡ Some h → h.kind ≡ kind_of a.stamp
suits_kind a None s h e = absurd (none_some e)
suits_kind a (Some d) s h e = let z : d ≡ h = cc e in ap (λ (x : Edge). x.kind) (sym z) ∙ s.1

pub add_as_map : AddAsMap
add_as_map L t u a sound e =
    let acc = add_accepted L t a u e in
    let held = get t a.child in
    let joins = row_joins L t sound a.child a.stamp held refl (suits_kind a held acc.suits) in
    (latest t a held refl, newest_in t a held refl (row_rising L t sound a.child held refl), rw acc.left (added_view t a held refl L.age acc.suits joins))
