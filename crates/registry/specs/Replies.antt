-- What each call can reply: its answers, and refusals that carry what their numbers list. Proved in proofs/Replies.antt.
use Rattle.std.specs.Prelude.{ℕ, ◌≡◌, Bool, true, false}
use Rattle.time.specs.Reply.{Reply, answer, refusal, ◌then◌}
use Rattle.geometry.specs.declared.isometry.Isometry.{Isometry}
use Rattle.geometry.specs.Isometry.{mul, inverse, interpolate}
use Rattle.geometry.specs.Transform.{validate}
use Rattle.registry.specs.Tree.{Limits, Addition}
use Rattle.registry.specs.Store.{Store}
use Rattle.registry.specs.Answers.{Value, done, pose, static, at, carries}
use Rattle.registry.specs.Calls.{open_of, add_of, wipe_of, lookup_of, common_time_of}

-- what calls are answered with: done; a pose; Static or an instant
pub data Form : Type 0 where
  of_done : Form
  of_pose : Form
  of_time : Form

abbrev pub answers : Form → Value → Bool
answers of_done done = true
answers of_done (pose p) = false
answers of_done static = false
answers of_done (at i) = false
answers of_pose done = false
answers of_pose (pose p) = true
answers of_pose static = false
answers of_pose (at i) = false
answers of_time done = false
answers of_time (pose p) = false
answers of_time static = true
answers of_time (at i) = true

-- an answer of this form, or a refusal with the listed data
abbrev pub fits : Form → Reply Value → Bool
fits form (answer v) = answers form v
fits form (refusal k c) = carries k c

-- of a pose operation, as a reply of a call
abbrev pub posed : Reply Isometry → Reply Value
posed r = r then λ p. answer (pose p)

pub record RepliesFit : Type 0 where
  pub opens : (s : Store) (L : Limits) → fits of_done (open_of s L).reply ≡ true
  pub adds : (s : Store) (a : Addition) → fits of_done (add_of s a).reply ≡ true
  pub wipes : (s : Store) (f i : ℕ) → fits of_done (wipe_of s f i).reply ≡ true
  pub lookups : (s : Store) (target source i : ℕ) → fits of_pose (lookup_of s target source i) ≡ true
  pub common_times : (s : Store) (target source : ℕ) → fits of_time (common_time_of s target source) ≡ true
  pub products : (a b : Isometry) → fits of_pose (posed (mul a b)) ≡ true
  pub inverses : (a : Isometry) → fits of_pose (posed (inverse a)) ≡ true
  pub interpolations : (a b : Isometry) (start end query : ℕ) → fits of_pose (posed (interpolate a b start end query)) ≡ true
  pub validations : (a : Isometry) → fits of_pose (posed (validate a)) ≡ true
