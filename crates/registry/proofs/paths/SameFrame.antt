-- A known frame seen from itself is the identity, and its common time with itself is Static.
use mathlib.Core.Path.{refl, sym}
use mathlib.Core.List.{◌++◌}
use Rattle.time.specs.Reply.{refusal, nothing, ◌then◌}
use Rattle.geometry.specs.Isometry.{identity}
use Rattle.registry.specs.Answers.{pose, static}
use Rattle.registry.specs.Path.{spans, meet, lookup_along, lookup_apart, lookup, common_time}
use Rattle.registry.specs.PathLaws.{SameFrameAnswers}
use Rattle.registry.proofs.paths.AskEnds.{ask_same}

pub same_frame_answers : SameFrameAnswers
unfolding lookup common_time
same_frame_answers t f k = (
  λ i. sym (ask_same t f f (pose identity) (lookup_along i) (lookup_apart i) (sym (rw k)) refl),
  sym (ask_same t f f static (λ a b. spans (a ++ b) then meet) (λ a b. refusal 10 nothing) (sym (rw k)) refl),
)
