-- The tree while a map is loaded: sound, static, and its frames the numbers of the names so far. What one more record makes of it.
use Prim.Native.Nat.{ℕ, ◌*◌, ◌^◌, ◌≤◌, ◌<◌}
use mathlib.Core.Path.{◌≡◌, refl, ap, ◌∙◌}
use mathlib.Core.Bool.{Bool, true, false, not, ◌&&◌}
use Rattle.std.specs.Prelude.{Option, None, Some}
use mathlib.Core.List.{List, []}
use native.Mathlib.Omega.{arith}
use lib.Dec.{eqb, leb, ltb}
use lib.ListN.{length}
use lib.Ieee.{lt}
use borrow.Author.Tests.{le-ltb}
use Rattle.time.specs.Float.{◌⊖◌, one64, abs}
use Rattle.time.specs.Reply.{Carried, nothing, norm, answer}
use Rattle.geometry.specs.declared.isometry.Isometry.{Isometry}
use Rattle.geometry.specs.Vector3 as vector
use Rattle.geometry.specs.Quaternion as quaternion
use Rattle.geometry.specs.Transform.{tolerance, validate}
use Rattle.buffer.specs.declared.kind.Kind.{Kind}
use Rattle.buffer.specs.declared.kind.Kind.TheVariants.{Static, Dynamic}
use Rattle.buffer.specs.Map.{all, get}
use Rattle.buffer.specs.Samples.{Samples, insert}
use Rattle.buffer.specs.Row.{instants_sound}
use Rattle.buffer.proofs.Cases.{false_true}
use Rattle.buffer.proofs.Maps.{rising_is}
use Rattle.buffer.proofs.Alls.{all_get, all_put}
use Rattle.buffer.proofs.SampleLaws.{insert_empty, insert_single}
use Rattle.buffer.proofs.SoundRows.{instants_of}
use Rattle.registry.specs.Tree.{Edge, Tree, Limits, Addition, is_absent, ancestors, member, same_kind, other_parent, current_parent, other_kind, updated_edge, add_to, add}
use Rattle.registry.specs.Sound.{no_circle}
use Rattle.registry.specs.Laws.{InRange, SoundTree}
use Rattle.registry.proofs.Held.{add_accepted, add_keeps_sound}
use Rattle.registry.proofs.Fits.{answered, Only, on_refuse, on_then}
use Rattle.map_file.specs.Form.{Name, Record}
use Rattle.map_file.specs.Book.{numbered}
use Rattle.map_loading.specs.Laws.{record_refusals}
use Rattle.map_loading.proofs.NamesBound.{FramesBelow, names_bound, position_most, numbered_longer}
use Rattle.map_loading.specs.Numbering.{names_after, addition_after}

abbrev is_static : Kind → Bool
is_static Static = true
is_static Dynamic = false

-- every child is static
abbrev all_static : Tree → Bool
all_static t = all (λ x. is_static x.1.kind) t

pub record LoadedSoFar (L : Limits) (t : Tree) (names : List Name) : Type 0 where
  pub range : InRange L.rows L.capacity
  pub rules : SoundTree L t
  pub static : all_static t ≡ true
  pub below : FramesBelow (length names) t
  pub few : length names ≤ 2 * length t

-- a store has at most 256 rows
pub names_few : {L : Limits} {t : Tree} {names : List Name} → LoadedSoFar L t names → length names ≤ 512
names_few ok = omega (arith, ok.few, ok.rules.few, ok.range.few_rows)

module _ (L : Limits) (t : Tree) (names : List Name) (ok : LoadedSoFar L t names) (r : Record) where
  abbrev new : Addition
  new = addition_after names r

  held_static : (e : Edge) → get t new.child ≡ Some e → is_static e.kind ≡ true
  held_static e g = (all_get (λ x. is_static x.1.kind) t ((rising_is t).0 ok.rules.rises)).0 ok.static new.child e g

  -- ---- no 8 and no 17

  same_kind_lem : (held : Option Edge) → get t new.child ≡ held → other_kind held Static ≡ false
  same_kind_lem None g = refl
  same_kind_lem (Some e) g = of e.kind (held_static e g)
    where
      of : (k : Kind) → is_static k ≡ true → not (same_kind k Static) ≡ false
      of Static h = refl
      of Dynamic h = absurd (false_true h)

  one_sample : (held : Option Edge) → get t new.child ≡ held → length (updated_edge L.age new held).samples ≡ 1
  one_sample None g = ap length (insert_empty L.age 0 new.pose)
  one_sample (Some e) g =
      let sound : instants_sound L.age L.capacity e.kind e.samples ≡ true = (all_get _ t ((rising_is t).0 ok.rules.rises)).0 ok.rules.instants new.child e g in
      of e.kind (held_static e g) sound
    where
      of : (k : Kind) → is_static k ≡ true → instants_sound L.age L.capacity k e.samples ≡ true → length (insert L.age 0 new.pose e.samples) ≡ 1
      of Static h s =
          let one = (instants_of L.age L.capacity Static e.samples s).0 in
          ap (λ (m : Samples). length (insert L.age 0 new.pose m)) one.1 ∙ ap length (insert_single L.age 0 one.0 new.pose)
      of Dynamic h s = absurd (false_true h)

  within : (held : Option Edge) → get t new.child ≡ held → ltb L.capacity (length (updated_edge L.age new held).samples) ≡ false
  within held g = le-ltb L.capacity (length (updated_edge L.age new held).samples) (let p = ok.range.positive_capacity in omega (arith, one_sample held g))

  -- the refusals that are left
  abbrev listed : ℕ → Carried → Bool
  listed k c = member k record_refusals

  valid_only : (p : Isometry) → Only listed (validate p)
  unfolding validate
  valid_only p =
      let n = quaternion.norm p.rotation in
      on_refuse (not (vector.is_finite p.translation && quaternion.is_finite p.rotation)) 3 nothing refl
      (on_refuse (lt tolerance (abs (n ⊖ one64))) 4 (norm n) refl (answered refl))

  added_only : (held : Option Edge) → get t new.child ≡ held → Only listed (add_to L t new held)
  added_only held g =
      on_refuse (is_absent held && member new.child (ancestors t new.parent)) 7 nothing refl
      (on_then _ (valid_only new.pose)
      (λ p.
      on_refuse (eqb new.parent new.child) 5 nothing refl
      (on_refuse (other_parent held new.parent) 6 (current_parent held) refl
      (rw (same_kind_lem held g, within held g)
      (on_refuse (is_absent held && leb L.rows (length t)) 16 nothing refl (answered refl))))))

  pub refused_only : Only listed (add L t new)
  unfolding add
  refused_only = added_only (get t new.child) refl

  -- ---- what an answered addition leaves

  edge_static : (held : Option Edge) → get t new.child ≡ held → is_static (updated_edge L.age new held).kind ≡ true
  edge_static None g = refl
  edge_static (Some e) g = held_static e g

  child_small : new.child < 2 ^ 32
  child_small = omega (arith, names_few ok, position_most r.child names)

  parent_small : new.parent < 2 ^ 32
  parent_small = omega (arith, names_few ok, position_most r.parent (numbered names r.child), (numbered_longer r.child names).1)

  pub loaded_more : (u : Tree) → add L t new ≡ answer u → LoadedSoFar L u (names_after names r)
  loaded_more u e =
      let left = (add_accepted L t new u e).left in
      let held = get t new.child in
      let bound = names_bound L t u names r.child r.parent new.pose ok.rules.rises ok.below ok.few e in
      record {
        range = ok.range;
        rules = add_keeps_sound L t u new child_small parent_small ok.rules e;
        static = rw left (all_put (λ x. is_static x.1.kind) new.child (updated_edge L.age new held) t (edge_static held refl) ok.static);
        below = bound.0;
        few = bound.1;
      }

-- no row and no name
pub loaded_first : (L : Limits) → InRange L.rows L.capacity → LoadedSoFar L [] []
unfolding no_circle
loaded_first L range = record {
  range = range;
  rules = record { few = omega arith; rises = refl; frames = refl; parents = refl; circles = refl; instants = refl; poses = refl };
  static = refl;
  below = refl;
  few = omega arith;
}
