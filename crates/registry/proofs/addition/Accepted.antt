-- What an addition that is answered has passed, and the tree that it leaves.
use Prim.Native.Nat.{ℕ, ◌≤◌}
use mathlib.Core.Path.{◌≡◌, refl, sym, ap}
use mathlib.Core.Bool.{Bool, true, false, not, ◌&&◌}
use Rattle.std.specs.Prelude.{Option, None, Some}
use native.Mathlib.Omega.{arith}
use lib.ListN.{length}
use lib.Dec.{eqb, leb, ltb}
use borrow.Author.Tests.{eqb-true, le-leb, leb-false, ltb-false}
use Rattle.time.specs.Reply.{nothing, answer}
use Rattle.time.proofs.Replies.{answer_in, refuse_answered, then_answered}
use Rattle.geometry.specs.Transform.{validate, passes}
use Rattle.buffer.specs.declared.kind.Kind.{Kind}
use Rattle.buffer.specs.declared.kind.Kind.TheVariants.{Static, Dynamic}
use Rattle.buffer.specs.Map.{all, get, put}
use Rattle.buffer.proofs.Cases.{false_true}
use Rattle.buffer.proofs.Maps.{Rising, length_put_new, length_put_held}
use Rattle.buffer.proofs.Alls.{all_put}
use Rattle.buffer.specs.Kind.{kind_of}
use Rattle.registry.specs.Tree.{Edge, Tree, Limits, Addition, is_absent, ancestors, member, same_kind, other_parent, current_parent, other_kind, updated_edge, add_to, add}
use Rattle.registry.proofs.layout.StoreBack.{Fits}

-- ---- what the refusals 6 and 8 leave

-- the addition's parent and kind are those that the child is held with
abbrev pub Suits : Option Edge → Addition → Type 0
Suits None a = Unit {0}
Suits (Some e) a = (e.parent ≡ a.parent) × (e.kind ≡ kind_of a.stamp)

not_false : (b : Bool) → not b ≡ false → b ≡ true
not_false true e = refl
not_false false e = sym e

same_kind_lem : (k l : Kind) → same_kind k l ≡ true → k ≡ l
same_kind_lem Static Static e = refl
same_kind_lem Static Dynamic e = absurd (false_true e)
same_kind_lem Dynamic Static e = absurd (false_true e)
same_kind_lem Dynamic Dynamic e = refl

suits : (a : Addition) (held : Option Edge) → other_parent held a.parent ≡ false → other_kind held (kind_of a.stamp) ≡ false → Suits held a
suits a None p k = tt
suits a (Some e) p k = (
  eqb-true e.parent a.parent (not_false (eqb e.parent a.parent) p),
  same_kind_lem e.kind (kind_of a.stamp) (not_false (same_kind e.kind (kind_of a.stamp)) k),
)

-- ---- an answered addition to a tree that holds `held` at the child

pub record Accepted (L : Limits) (t : Tree) (a : Addition) (held : Option Edge) (u : Tree) : Type 0 where
  pub no_circle : (is_absent held && member a.child (ancestors t a.parent)) ≡ false
  pub valid : passes (validate a.pose) ≡ true
  pub apart : eqb a.parent a.child ≡ false
  pub suits : Suits held a
  pub room : (is_absent held && leb L.rows (length t)) ≡ false
  pub few : length (updated_edge L.age a held).samples ≤ L.capacity
  pub left : u ≡ put a.child (updated_edge L.age a held) t

accepted_by : (L : Limits) (t : Tree) (a : Addition) (held : Option Edge) (u : Tree) → add_to L t a held ≡ answer u → Accepted L t a held u
accepted_by L t a held u e =
    let c7 = refuse_answered (is_absent held && member a.child (ancestors t a.parent)) 7 nothing _ u e in
    let c34 = then_answered (validate a.pose) _ u c7.1 in
    let c5 = refuse_answered (eqb a.parent a.child) 5 nothing _ u c34.2 in
    let c6 = refuse_answered (other_parent held a.parent) 6 (current_parent held) _ u c5.1 in
    let c8 = refuse_answered (other_kind held (kind_of a.stamp)) 8 nothing _ u c6.1 in
    let c16 = refuse_answered (is_absent held && leb L.rows (length t)) 16 nothing _ u c8.1 in
    let c17 = refuse_answered (ltb L.capacity (length (updated_edge L.age a held).samples)) 17 nothing _ u c16.1 in
    record {
      no_circle = c7.0;
      valid = ap passes c34.1;
      apart = c5.0;
      suits = suits a held c6.0 c8.0;
      room = c16.0;
      few = ltb-false L.capacity (length (updated_edge L.age a held).samples) c17.0;
      left = sym (answer_in c17.1);
    }

pub add_accepted : (L : Limits) (t : Tree) (a : Addition) (u : Tree) → add L t a ≡ answer u → Accepted L t a (get t a.child) u
unfolding add
add_accepted L t a u e = accepted_by L t a (get t a.child) u e

-- ---- the tree that is left fits the limits

accepted_rows : (L : Limits) (t : Tree) (c : ℕ) (e : Edge) (held : Option Edge) → get t c ≡ held → Rising t → length t ≤ L.rows
    → (is_absent held && leb L.rows (length t)) ≡ false → length (put c e t) ≤ L.rows
accepted_rows L t c e None h r f room = let l = leb-false L.rows (length t) room in omega (arith, length_put_new c e t h)
accepted_rows L t c e (Some d) h r f room = omega (arith, length_put_held c e d t r h)

pub accepted_fits : (L : Limits) (t : Tree) (a : Addition) (u : Tree) → Rising t → Fits L t → Accepted L t a (get t a.child) u → Fits L u
accepted_fits L t a u r f acc = rw acc.left (record { rows = rows; samples = samples })
  where
    rows : length (put a.child (updated_edge L.age a (get t a.child)) t) ≤ L.rows
    rows = accepted_rows L t a.child (updated_edge L.age a (get t a.child)) (get t a.child) refl r f.rows acc.room

    samples : all (λ x. leb (length x.1.samples) L.capacity) (put a.child (updated_edge L.age a (get t a.child)) t) ≡ true
    samples =
        all_put (λ x. leb (length x.1.samples) L.capacity) a.child (updated_edge L.age a (get t a.child)) t
        (le-leb _ _ acc.few) f.samples
