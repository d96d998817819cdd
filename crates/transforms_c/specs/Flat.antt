-- What C is told of a reply: one struct, in which a field that is not carried is 0.
use Rattle.std.specs.Prelude.{ℕ, List, Float}
use Rattle.std.specs.Prelude.{Option, None, Some}
use Rattle.time.specs.Float.{zero64}
use Rattle.time.specs.Reply.{Reply, answer, refusal, nothing, norm, frame, hop, ◌then◌}
use Rattle.geometry.specs.declared.isometry.Isometry.{Isometry}
use Rattle.geometry.specs.Vector3.{zero_vector}
use Rattle.registry.specs.Store.{Store}
use Rattle.registry.specs.Answers.{Value, done, pose, static, at}
use Rattle.registry.specs.Calls.{Outcome, store_of}
use Rattle.map_loading.specs.Loading.{Loading}
use Rattle.transforms_c.specs.declared.answer.Answer.{Answer}
use Rattle.transforms_c.specs.declared.answer.FrameAnswer.{FrameAnswer}
use Rattle.transforms_c.specs.declared.answer.NameAnswer.{NameAnswer}

-- seven times +0.0
abbrev pub no_pose : Isometry
no_pose = record { translation = zero_vector; rotation = record { w = zero64; x = zero64; y = zero64; z = zero64 } }

-- a number and nothing else
abbrev pub plain : ℕ → Answer
plain k = record { number = k; frame = 0; has_range = 0; is_static = 0; is_record = 0; reserved = 0; start = 0; end = 0; norm = zero64; instant = 0; index = 0; pose = no_pose }

abbrev pub posed : Isometry → Answer
posed p = record { number = 0; frame = 0; has_range = 0; is_static = 0; is_record = 0; reserved = 0; start = 0; end = 0; norm = zero64; instant = 0; index = 0; pose = p }

abbrev pub any_instant : Answer
any_instant = record { number = 0; frame = 0; has_range = 0; is_static = 1; is_record = 0; reserved = 0; start = 0; end = 0; norm = zero64; instant = 0; index = 0; pose = no_pose }

abbrev pub at_instant : ℕ → Answer
at_instant i = record { number = 0; frame = 0; has_range = 0; is_static = 0; is_record = 0; reserved = 0; start = 0; end = 0; norm = zero64; instant = i; index = 0; pose = no_pose }

abbrev pub normed : ℕ → Float → Answer
normed k n = record { number = k; frame = 0; has_range = 0; is_static = 0; is_record = 0; reserved = 0; start = 0; end = 0; norm = n; instant = 0; index = 0; pose = no_pose }

abbrev pub framed : ℕ → ℕ → Answer
framed k f = record { number = k; frame = f; has_range = 0; is_static = 0; is_record = 0; reserved = 0; start = 0; end = 0; norm = zero64; instant = 0; index = 0; pose = no_pose }

-- a hop's child, and its range if there is one
abbrev pub ranged : ℕ → ℕ → Option (ℕ × ℕ) → Answer
ranged k f None = framed k f
ranged k f (Some r) = record { number = k; frame = f; has_range = 1; is_static = 0; is_record = 0; reserved = 0; start = r.0; end = r.1; norm = zero64; instant = 0; index = 0; pose = no_pose }

abbrev pub flat : Reply Value → Answer
flat (answer done) = plain 0
flat (answer (pose p)) = posed p
flat (answer static) = any_instant
flat (answer (at i)) = at_instant i
flat (refusal k nothing) = plain k
flat (refusal k (norm n)) = normed k n
flat (refusal k (frame f)) = framed k f
flat (refusal k (hop f range)) = ranged k f range

-- of an operation on poses
abbrev pub flat_pose : Reply Isometry → Answer
flat_pose r = flat (r then λ p. answer (pose p))

-- a record's refusal is marked, with the record's number
abbrev pub of_record : ℕ → Answer → Answer
of_record n a = record {
  number = a.number;
  frame = a.frame;
  has_range = a.has_range;
  is_static = a.is_static;
  is_record = 1;
  reserved = a.reserved;
  start = a.start;
  end = a.end;
  norm = a.norm;
  instant = a.instant;
  index = n;
  pose = a.pose;
}

-- of a load
abbrev pub flat_load : Option ℕ → Reply Value → Answer
flat_load None r = flat r
flat_load (Some n) r = of_record n (flat r)

-- the struct, and every word of the three slices afterwards
pub record Returned : Type 0 where
  pub result : Answer
  pub store : Store

abbrev pub returned : Answer → List ℕ → List ℕ → List Float → Returned
returned r h i p = record { result = r; store = store_of h i p }

abbrev pub flat_outcome : Outcome → Returned
flat_outcome o = record { result = flat o.reply; store = o.store }

abbrev pub flat_loading : Loading → Returned
flat_loading l = record { result = flat_load l.record? l.reply; store = l.store }

-- ---- the book of a map's names

-- 18, none, or the number
abbrev pub flat_frame : Reply (Option ℕ) → FrameAnswer
flat_frame (answer (Some k)) = record { number = 0; is_known = 1; frame = k }
flat_frame (answer None) = record { number = 0; is_known = 0; frame = 0 }
flat_frame (refusal k c) = record { number = k; is_known = 0; frame = 0 }

-- 18, none, or where in the file the name stands
abbrev pub flat_name : Reply (Option (ℕ × ℕ)) → NameAnswer
flat_name (answer (Some part)) = record { number = 0; is_known = 1; start = part.0; count = part.1 }
flat_name (answer None) = record { number = 0; is_known = 0; start = 0; count = 0 }
flat_name (refusal k c) = record { number = k; is_known = 0; start = 0; count = 0 }
