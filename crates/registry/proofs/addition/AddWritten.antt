-- What an addition leaves in a sound store: the refusal of its tests and every word as it was, a held child's row updated_edge, or a new child's row put in.
use Prim.Native.Nat.{ℕ, ◌≤◌, ◌<◌}
use mathlib.Core.Path.{◌≡◌, sym, ap, ◌∙◌}
use mathlib.Core.Bool.{Bool, false}
use Rattle.std.specs.Prelude.{Option, None, Some}
use mathlib.Core.List.{[]}
use lib.Dec.{ltb}
use lib.ListN.{length}
use borrow.Author.Tests.{le-ltb}
use Rattle.time.specs.declared.stamp.Stamp.{Stamp}
use Rattle.time.specs.Reply.{Reply, Carried, answer, refusal, nothing, refuse}
use Rattle.geometry.specs.declared.isometry.Isometry.{Isometry}
use Rattle.buffer.specs.declared.kind.Kind.{Kind}
use Rattle.buffer.specs.Map.{get, put}
use Rattle.buffer.specs.Samples.{insert}
use Rattle.buffer.specs.Row.{FloatsFit}
use Rattle.buffer.proofs.Maps.{put_again}
use Rattle.buffer.proofs.SampleLaws.{insert_empty}
use Rattle.buffer.specs.Kind.{kind_of}
use Rattle.registry.specs.Tree.{Edge, Tree, Limits, Addition, addition, instant_of, updated_edge, add}
use Rattle.registry.specs.Store.{Store, rows_in, capacity_in, used_in, limits_of, edge_at, tree_of, stored}
use Rattle.registry.specs.Sound.{SoundStore}
use Rattle.registry.specs.Answers.{done}
use Rattle.registry.specs.Calls.{written}
use Rattle.registry.specs.layout.Rows.{IsRow, AbsentAt, empty_row, with_row, put_into}
use Rattle.registry.specs.addition.Adding.{admits}
use Rattle.registry.proofs.layout.SizeLaws.{sized_is}
use Rattle.registry.proofs.layout.TreeRows.{get_found, get_absent}
use Rattle.registry.proofs.layout.NewRow.{blank_edge, with_empty, row_stored, empty_limits, empty_tree, empty_row_lem}
use Rattle.registry.proofs.soundness.SoundStore.{sound_rows}
use Rattle.registry.proofs.addition.Admitting.{admits_decides, passed, failed}

-- ---- refusals

-- what follows the tests
abbrev after : Limits → Tree → Addition → Option Edge → Reply Tree
after L t a held = refuse (ltb L.capacity (length (updated_edge L.age a held).samples)) 17 nothing (answer (put a.child (updated_edge L.age a held) t))

module _ (L : Limits) (t : Tree) (a : Addition) (held : Option Edge) (q : get t a.child ≡ held) where
  add_is : add L t a ≡ admits L t a held (after L t a held)
  unfolding add admits
  add_is = rw q

  pub refused_written : (s : Store) {k : ℕ} {c : Carried} → refusal k c ≡ admits L t a held (answer done)
      → record { reply = refusal k c; store = s } ≡ written s L (add L t a)
  refused_written s d = ap (written s L) (failed (admits_decides L t a held (after L t a held)) d ∙ sym add_is)

  add_after : answer done ≡ admits L t a held (answer done) → add L t a ≡ after L t a held
  add_after d = add_is ∙ passed (admits_decides L t a held (after L t a held)) d

-- ---- a held child

module _ (s : Store) (ok : SoundStore s) (child parent : ℕ) (stamp : Stamp) (p : Isometry) where
  abbrev a : Addition
  a = addition child parent stamp p

  pub held_get : (r : ℕ) → IsRow s.head child r → get (tree_of s) child ≡ Some (edge_at s r)
  held_get r found = get_found s (sound_rows s ok).rises child r found

  pub held_written : (r : ℕ) (found : IsRow s.head child r) (i : ℕ) → i ≡ instant_of stamp
      → answer done ≡ admits (limits_of s) (tree_of s) a (Some (edge_at s r)) (answer done)
      → written s (limits_of s) (put_into s r i p) ≡ written s (limits_of s) (add (limits_of s) (tree_of s) a)
  unfolding put_into
  held_written r found i e d =
      let x = edge_at s r in
      let L = limits_of s in
      ap (written s L)
      ((λ j. refuse (ltb L.capacity (length (insert L.age (e j) p x.samples))) 17 nothing
      (answer (put (found.child j) (record { parent = x.parent; kind = x.kind; samples = insert L.age (e j) p x.samples }) (tree_of s))))
      ∙ sym (add_after L (tree_of s) a (Some x) (held_get r found) d))

  -- ---- a new child

  pub absent_get : (k : ℕ) → AbsentAt s.head child k → get (tree_of s) child ≡ None
  absent_get k absent = get_absent s child k absent

-- its first sample: a row is never full with one
module _ (s : Store) (ok : SoundStore s) (fit : FloatsFit s.poses) (k child parent : ℕ) (kind : Kind) (absent : AbsentAt s.head child k) (room : used_in s < rows_in s)
    (stamp : Stamp) (p : Isometry) (same : kind ≡ kind_of stamp) (i : ℕ) (e : i ≡ instant_of stamp) where
  abbrev before : Edge
  before = blank_edge s ok fit k child parent kind absent room

  abbrev tree : Tree
  tree = with_empty s ok fit k child parent kind absent room

  abbrev first : Addition
  first = addition child parent stamp p

  abbrev first_edge : Edge
  first_edge = updated_edge (limits_of s).age first None

  one : ltb (limits_of s).capacity (length first_edge.samples) ≡ false
  unfolding limits_of
  one =
      let l : 1 ≤ capacity_in s = ((sized_is s).0 ok.sizes).range.positive_capacity in
      rw (insert_empty (limits_of s).age (instant_of stamp) p) (le-ltb (capacity_in s) 1 l)

  -- a sample put into a row with these words and limits
  abbrev into : ℕ × Edge → Limits → Tree → Reply Tree
  into x L t =
      let m = insert L.age i p x.1.samples in
      refuse (ltb L.capacity (length m)) 17 nothing (answer (put x.0 (record { parent = x.1.parent; kind = x.1.kind; samples = m }) t))

  into_first : into (child, before) (limits_of s) tree ≡ answer (put child first_edge (tree_of s))
  into_first =
      (λ j. refuse (ltb (limits_of s).capacity (length (insert (limits_of s).age (e j) p []))) 17 nothing
      (answer (put child (record { parent = parent; kind = same j; samples = insert (limits_of s).age (e j) p [] }) tree)))
      ∙ ap {B = Reply Tree} (λ (b : Bool). refuse b 17 nothing (answer (put child first_edge tree))) one
      ∙ ap {B = Reply Tree} answer (put_again child before first_edge (tree_of s))

  put_into_lem : put_into (stored (limits_of s) tree) k i p ≡ answer (put child first_edge (tree_of s))
  unfolding put_into
  put_into_lem =
      (λ j. into (empty_row_lem s ok fit k child parent kind absent room j) (empty_limits s ok fit k child parent kind absent room j) (empty_tree s ok fit k child parent kind absent room j))
      ∙ into_first

  pub new_written : answer done ≡ admits (limits_of s) (tree_of s) first None (answer done)
      → (let u = with_row k (empty_row child parent kind) s in written u (limits_of u) (put_into u k i p) ≡ written s (limits_of s) (add (limits_of s) (tree_of s) first))
  new_written d =
      let u = stored (limits_of s) tree in
      let words = row_stored s ok fit k child parent kind absent room in
      let right : add (limits_of s) (tree_of s) first ≡ answer (put child first_edge (tree_of s)) =
      add_after (limits_of s) (tree_of s) first None (get_absent s child k absent) d
      ∙ ap {B = Reply Tree} (λ (b : Bool). refuse b 17 nothing (answer (put child first_edge (tree_of s)))) one
      in
      (λ j. written (words j) (limits_of (words j)) (put_into (words j) k i p))
      ∙ ap (written u (limits_of u)) put_into_lem
      ∙ ap (λ (L : Limits). record { reply = answer done; store = stored L (put child first_edge (tree_of s)) }) (empty_limits s ok fit k child parent kind absent room)
      ∙ sym (ap (written s (limits_of s)) right)
