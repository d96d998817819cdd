-- The struct fixes the reply of the call that was made: the reply can be read back from it.
use Prim.Native.Nat.{ℕ}
use mathlib.Core.Path.{◌≡◌, refl, sym, ap, ◌∙◌}
use mathlib.Core.Bool.{Bool, true, false, cond, not, ◌&&◌}
use Rattle.std.specs.Prelude.{Option, None, Some}
use mathlib.Core.List.{List, [], ◌∷◌}
use lib.Dec.{eqb}
use borrow.Author.Tests.{eqb-true, not-true}
use Rattle.time.specs.Reply.{Carried, nothing, norm, frame, hop, Reply, answer, refusal}
use Rattle.geometry.specs.declared.isometry.Isometry.{Isometry}
use Rattle.buffer.proofs.Cases.{both, false_true, and_left, and_right}
use Rattle.registry.specs.Tree.{member}
use Rattle.registry.specs.Answers.{Value, done, pose, static, at, with_nothing, with_norm, with_frame, with_hop}
use Rattle.registry.specs.Replies.{Form, of_done, of_pose, of_time, fits, posed}
use Rattle.transforms_c.specs.declared.answer.Answer.{Answer}
use Rattle.transforms_c.specs.Flat.{flat, flat_load}
use Rattle.transforms_c.specs.Laws.{FlatFixes, FlatPoseFixes, FlatLoadFixes}

-- ---- the numbers of two lists

-- none of the first is in the second
abbrev none_in : List ℕ → List ℕ → Bool
none_in [] ys = true
none_in (x ∷ xs) ys = not (member x ys) && none_in xs ys

not_in : (xs ys : List ℕ) (k : ℕ) → none_in xs ys ≡ true → member k xs ≡ true → member k ys ≡ false
not_in [] ys k h m = absurd (false_true m)
not_in (x ∷ xs) ys k h m =
    both (eqb k x)
    (λ q. ap (λ (n : ℕ). member n ys) (eqb-true k x q) ∙ not-true (member x ys) (and_left (not (member x ys)) _ h))
    (λ q. not_in xs ys k (and_right (not (member x ys)) _ h) (rw q at m))

-- ---- from the struct to the reply

value_of : Form → Answer → Value
value_of of_done a = done
value_of of_pose a = pose a.pose
value_of of_time a = cond (eqb a.is_static 1) static (at a.instant)

carried_of : ℕ → Answer → Carried
carried_of k a =
    cond (member k with_norm) (norm a.norm)
    (cond (member k with_frame) (frame a.frame)
    (cond (member k with_hop) (hop a.frame (cond (eqb a.has_range 1) (Some (a.start, a.end)) None))
    nothing))

reply_in : Form → Answer → Reply Value
reply_in form a = cond (member a.number (0 ∷ [])) (answer (value_of form a)) (refusal a.number (carried_of a.number a))

-- ---- there and back

back : (form : Form) (r : Reply Value) → fits form r ≡ true → reply_in form (flat r) ≡ r
unfolding reply_in value_of carried_of
back of_done (answer done) h = refl
back of_done (answer (pose p)) h = absurd (false_true h)
back of_done (answer static) h = absurd (false_true h)
back of_done (answer (at i)) h = absurd (false_true h)
back of_pose (answer done) h = absurd (false_true h)
back of_pose (answer (pose p)) h = refl
back of_pose (answer static) h = absurd (false_true h)
back of_pose (answer (at i)) h = absurd (false_true h)
back of_time (answer done) h = absurd (false_true h)
back of_time (answer (pose p)) h = absurd (false_true h)
back of_time (answer static) h = refl
back of_time (answer (at i)) h = refl
back form (refusal k nothing) h =
    rw (not_in with_nothing (0 ∷ []) k refl h, not_in with_nothing with_norm k refl h, not_in with_nothing with_frame k refl h, not_in with_nothing with_hop k refl h)
back form (refusal k (norm x)) h = rw (not_in with_norm (0 ∷ []) k refl h, h)
back form (refusal k (frame f)) h = rw (not_in with_frame (0 ∷ []) k refl h, not_in with_frame with_norm k refl h, h)
back form (refusal k (hop f None)) h = rw (not_in with_hop (0 ∷ []) k refl h, not_in with_hop with_norm k refl h, not_in with_hop with_frame k refl h, h)
back form (refusal k (hop f (Some r))) h = rw (not_in with_hop (0 ∷ []) k refl h, not_in with_hop with_norm k refl h, not_in with_hop with_frame k refl h, h)

pub flat_fixes : FlatFixes
flat_fixes form r q h g e = sym (back form r h) ∙ ap (reply_in form) e ∙ back form q g

-- ---- operations on poses

posed_injective : (r q : Reply Isometry) → posed r ≡ posed q → r ≡ q
posed_injective (answer a) (answer b) e = cc e
posed_injective (answer a) (refusal k c) e = cc e
posed_injective (refusal k c) (answer b) e = cc e
posed_injective (refusal k c) (refusal n d) e = cc e

pub flat_pose_fixes : FlatPoseFixes
flat_pose_fixes r q h g e = posed_injective r q (flat_fixes of_pose (posed r) (posed q) h g e)

-- ---- loads

record_in : Answer → Option ℕ
record_in a = cond (eqb a.is_record 1) (Some a.index) None

no_record : (r : Reply Value) → record_in (flat r) ≡ None
unfolding record_in
no_record (answer done) = refl
no_record (answer (pose p)) = refl
no_record (answer static) = refl
no_record (answer (at i)) = refl
no_record (refusal k nothing) = refl
no_record (refusal k (norm x)) = refl
no_record (refusal k (frame f)) = refl
no_record (refusal k (hop f None)) = refl
no_record (refusal k (hop f (Some r))) = refl

record_back : (m : Option ℕ) (r : Reply Value) → record_in (flat_load m r) ≡ m
unfolding record_in
record_back None r = no_record r
record_back (Some n) r = refl

load_back : (m : Option ℕ) (r : Reply Value) → fits of_done r ≡ true → reply_in of_done (flat_load m r) ≡ r
unfolding reply_in value_of carried_of
load_back None r h = back of_done r h
load_back (Some n) r h = back of_done r h

pub flat_load_fixes : FlatLoadFixes
flat_load_fixes m n r q h g e = (
  sym (record_back m r) ∙ ap record_in e ∙ record_back n q,
  sym (load_back m r h) ∙ ap (reply_in of_done) e ∙ load_back n q g,
)
