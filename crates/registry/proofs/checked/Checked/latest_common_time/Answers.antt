use mathlib.Core.Path.{◌≡◌, ap, ◌∙◌}
use mathlib.Core.List.{◌++◌}
use Rattle.std.specs.Prelude.{Ok, Err}
use Rattle.time.specs.Reply.{refusal, nothing, ◌then◌}
use Rattle.registry.specs.declared.error.RegistryError.{RegistryError}
use Rattle.registry.specs.Store.{tree_of}
use Rattle.registry.specs.Answers.{Value, static, told_time}
use Rattle.registry.specs.Calls.{words}
use Rattle.registry.specs.Path.{spans, meet, common_time}
use Rattle.registry.specs.paths.Walks.{known_frames, ask_known}
use Rattle.registry.proofs.Errors.{refused_by, passed_on}
use Rattle.registry.proofs.paths.AskEnds.{ask_unknown, ask_same, ask_apart}
use Rattle.registry.proofs.checked.Checked.latest_common_time.Goals as goal

pub returns-in_err-find_frames : goal.returns-in_err-find_frames
unfolding common_time
returns-in_err-find_frames c =
    let s = words c.args.self.now.store in
    let a = c.args in
    let e = c.in_err-find_frames.field-0.0 in
    let found : Err e ≡ known_frames (tree_of s) a.target a.source = rw c.rows.ensures at (c.in_err-find_frames.ensures s.instants s.poses) in
    let unknown = ask_unknown (tree_of s) a.target a.source e static (λ a b. spans (a ++ b) then meet) (λ a b. refusal 10 nothing) found in
    passed_on told_time c.from_residual.result e c.from_residual.ensures.1 ∙ ap (λ (e : RegistryError). refused_by {A = Value} e) unknown.1 ∙ unknown.2

pub returns-then-target-source : goal.returns-then-target-source
unfolding common_time
returns-then-target-source c =
    let s = words c.args.self.now.store in
    let a = c.args in
    let found : Ok tt ≡ known_frames (tree_of s) a.target a.source = rw c.rows.ensures at (c.in_ok-find_frames.ensures s.instants s.poses) in
    ask_same (tree_of s) a.target a.source static (λ a b. spans (a ++ b) then meet) (λ a b. refusal 10 nothing) found c.if-target-source.true

pub returns : goal.returns
unfolding common_time
returns c =
    let s = words c.args.self.now.store in
    let a = c.args in
    let found : Ok tt ≡ known_frames (tree_of s) a.target a.source = rw c.rows.ensures at (c.in_ok-find_frames.ensures s.instants s.poses) in
    c.common_time_known.ensures
    ∙ (λ j. ask_known (tree_of s) (c.from.ensures j) (c.from-2.ensures j) (λ a b. spans (a ++ b) then meet) (λ a b. refusal 10 nothing))
    ∙ ask_apart (tree_of s) a.target a.source static (λ a b. spans (a ++ b) then meet) (λ a b. refusal 10 nothing) found c.if-target-source.false
