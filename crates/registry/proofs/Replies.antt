-- What each call can reply: its answers are of one form, and each refusal carries what is listed.
use Prim.Native.Nat.{ℕ}
use mathlib.Core.Path.{◌≡◌, refl}
use mathlib.Core.Bool.{Bool, true, not, ◌&&◌}
use Rattle.std.specs.Prelude.{Option, None, Some}
use mathlib.Core.List.{List, ◌++◌}
use lib.Dec.{eqb, ltb, leb}
use lib.ListN.{length}
use lib.Ieee.{lt}
use Rattle.time.specs.Float.{◌⊖◌, one64, abs}
use Rattle.time.specs.Reply.{nothing, norm, frame, hop, Reply, refusal, refuse, ◌then◌}
use Rattle.time.specs.Timestamp.{duration_since, share}
use Rattle.geometry.specs.declared.isometry.Isometry.{Isometry}
use Rattle.geometry.specs.Vector3 as vector
use Rattle.geometry.specs.Quaternion as quaternion
use Rattle.geometry.specs.Isometry.{identity, finite, product, mul, interpolated, interpolate}
use Rattle.geometry.specs.Transform.{tolerance, validate}
use Rattle.buffer.specs.declared.kind.Kind.{Kind}
use Rattle.buffer.specs.declared.kind.Kind.TheVariants.{Static, Dynamic}
use Rattle.buffer.specs.Map.{get, keep}
use Rattle.buffer.specs.Samples.{Samples, range, last?, between_samples, served_at, single, served, first?}
use Rattle.buffer.specs.Kind.{kind_of}
use Rattle.registry.specs.Tree.{Edge, Tree, Limits, Addition, is_absent, ancestors, member, other_parent, current_parent, other_kind, updated_edge, add, wiped, wipe}
use Rattle.registry.specs.Store.{Store, limits_of, tree_of, sizes_fit, sized}
use Rattle.registry.specs.Sound.{sound}
use Rattle.registry.specs.Answers.{Value, pose, static, carries}
use Rattle.registry.specs.Path.{Hop, hops, lookup_along, lookup_apart, lookup, spans, meet, common_time}
use Rattle.registry.specs.PathLaws.{Every}
use Rattle.registry.specs.Calls.{written, open_of, on_tree, add_of, wipe_of, lookup_of, common_time_of}
use Rattle.registry.specs.Replies.{Form, of_done, of_pose, of_time, answers, fits, posed, RepliesFit}
use Rattle.registry.proofs.paths.Paths.{every_unit, every_map}
use Rattle.registry.proofs.Fits.{Fits, answered, refused, Only, on_refuse, on_cond, on_then, inverse_only, finite_only, ask_fits, Serves, lookup_known, common_time_known}

-- with the listed data: any answer, or one of the form
abbrev Listed : {A : Type 0} → Reply A → Type 0
Listed r = Only carries r

abbrev Formed : Form → Reply Value → Type 0
Formed form r = Fits carries (answers form) r

formed_is : (form : Form) {r : Reply Value} → Formed form r → fits form r ≡ true
formed_is form (answered h) = h
formed_is form (refused h) = h

-- ---- operations on poses

posed_formed : {r : Reply Isometry} → Listed r → Formed of_pose (posed r)
posed_formed h = on_then _ h (λ p. answered refl)

duration_listed : (later earlier : ℕ) → Listed (duration_since later earlier)
duration_listed later earlier = on_refuse (ltb later earlier) 15 nothing refl (answered refl)

finite_listed : (a : Isometry) → Listed (finite a)
finite_listed a = finite_only carries refl a

mul_listed : (a b : Isometry) → Listed (mul a b)
unfolding mul
mul_listed a b = finite_listed (product a b)

interpolated_listed : (a b : Isometry) (start end query : ℕ) → Listed (interpolated a b start end query)
unfolding interpolated share
interpolated_listed a b start end query =
    on_then _
    (on_then _ (duration_listed end start) (λ span.
    on_cond (eqb span 0) (answered refl) (on_then _ (duration_listed query start) (λ part. answered refl))))
    (λ s. answered refl)

interpolate_listed : (a b : Isometry) (start end query : ℕ) → Listed (interpolate a b start end query)
unfolding interpolate
interpolate_listed a b start end query = on_then _ (interpolated_listed a b start end query) finite_listed

validate_listed : (a : Isometry) → Listed (validate a)
unfolding validate
validate_listed a =
    let n = quaternion.norm a.rotation in
    on_refuse (not (vector.is_finite a.translation && quaternion.is_finite a.rotation)) 3 nothing refl
    (on_refuse (lt tolerance (abs (n ⊖ one64))) 4 (norm n) refl (answered refl))

-- ---- lookup

module _ (child : ℕ) (m : Samples) (t : ℕ) where
  abbrev unserved : Reply Isometry
  unserved = refusal 11 (hop child (range m))

  single_listed : (x : Option (ℕ × Isometry)) → Listed (single unserved x)
  single_listed None = refused refl
  single_listed (Some x) = answered refl

  between_samples_listed : (x y : Option (ℕ × Isometry)) → Listed (between_samples unserved x y t)
  between_samples_listed (Some x) (Some y) = interpolated_listed x.1 y.1 x.0 y.0 t
  between_samples_listed (Some x) None = refused refl
  between_samples_listed None y = refused refl

  at_listed : (x : Option Isometry) → Listed (served_at unserved x m t)
  at_listed (Some p) = answered refl
  at_listed None = between_samples_listed (last? (keep (λ i. ltb i t) m)) (first? (keep (ltb t) m))

  served_listed : (k : Kind) → Listed (served child k m t)
  unfolding served
  served_listed Static = single_listed (first? m)
  served_listed Dynamic = at_listed (get m t)

hops_listed : (i : ℕ) (hs : List Hop) → Every (Serves carries i) hs
hops_listed i hs = every_map (λ h u. served_listed h.0 h.1.samples i h.1.kind) hs (every_unit hs)

lookup_formed : (t : Tree) (f g i : ℕ) → Formed of_pose (lookup t f g i)
unfolding lookup
lookup_formed t f g i =
    ask_fits t f g (pose identity) (lookup_along i) (lookup_apart i) refl (λ x. refl)
    (lookup_known carries i refl refl refl refl t (λ xs. hops_listed i (hops t xs)) f g)

common_time_formed : (t : Tree) (f g : ℕ) → Formed of_time (common_time t f g)
unfolding common_time
common_time_formed t f g =
    ask_fits t f g static (λ a b. spans (a ++ b) then meet) (λ a b. refusal 10 nothing) refl (λ x. refl)
    (common_time_known carries (λ child range. refl) refl t f g)

-- ---- addition and wipe

-- 6 carries that parent
parent_listed : (held : Option Edge) (p : ℕ) {next : Reply Tree} → Listed next → Listed (refuse (other_parent held p) 6 (current_parent held) next)
parent_listed None p n = n
parent_listed (Some e) p n = on_refuse (not (eqb e.parent p)) 6 (frame e.parent) refl n

add_listed : (L : Limits) (t : Tree) (a : Addition) → Listed (add L t a)
unfolding add
add_listed L t a =
    let held = get t a.child in
    on_refuse (is_absent held && member a.child (ancestors t a.parent)) 7 nothing refl
    (on_then _ (validate_listed a.pose) (λ p.
    on_refuse (eqb a.parent a.child) 5 nothing refl
    (parent_listed held a.parent
    (on_refuse (other_kind held (kind_of a.stamp)) 8 nothing refl
    (on_refuse (is_absent held && leb L.rows (length t)) 16 nothing refl
    (on_refuse (ltb L.capacity (length (updated_edge L.age a held).samples)) 17 nothing refl
    (answered refl)))))))

wiped_listed : (f i : ℕ) (t : Tree) (held : Option Edge) → Listed (wiped f i t held)
wiped_listed f i t None = refused refl
wiped_listed f i t (Some e) = answered refl

wipe_listed : (t : Tree) (f i : ℕ) → Listed (wipe t f i)
unfolding wipe
wipe_listed t f i = wiped_listed f i t (get t f)

-- ---- calls

on_tree_lem : {A : Type 0} {Q : A → Bool} (s : Store) (call : Limits → Tree → Reply A) → Fits carries Q (call (limits_of s) (tree_of s)) → Fits carries Q (on_tree s call)
unfolding on_tree
on_tree_lem s call h = on_refuse (not (sized s)) 1 nothing refl (on_refuse (not (sound s)) 2 nothing refl h)

written_fits : (s : Store) (L : Limits) {r : Reply Tree} → Listed r → fits of_done (written s L r).reply ≡ true
written_fits s L (answered h) = refl
written_fits s L (refused h) = h

pub replies_fit : RepliesFit
unfolding open_of add_of wipe_of lookup_of common_time_of
replies_fit = record {
  opens = λ s L. written_fits s L (on_refuse (not (sizes_fit L.rows L.capacity s)) 1 nothing refl (answered refl));
  adds = λ s a. written_fits s (limits_of s) (on_tree_lem s (λ L t. add L t a) (add_listed (limits_of s) (tree_of s) a));
  wipes = λ s f i. written_fits s (limits_of s) (on_tree_lem s (λ L t. wipe t f i) (wipe_listed (tree_of s) f i));
  lookups = λ s f g i. formed_is of_pose (on_tree_lem s (λ L t. lookup t f g i) (lookup_formed (tree_of s) f g i));
  common_times = λ s f g. formed_is of_time (on_tree_lem s (λ L t. common_time t f g) (common_time_formed (tree_of s) f g));
  products = λ a b. formed_is of_pose (posed_formed (mul_listed a b));
  inverses = λ a. formed_is of_pose (posed_formed (inverse_only carries refl refl refl a));
  interpolations = λ a b start end query. formed_is of_pose (posed_formed (interpolate_listed a b start end query));
  validations = λ a. formed_is of_pose (posed_formed (validate_listed a));
}
