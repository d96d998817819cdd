use mathlib.Core.Path.{◌≡◌, ap, ◌∙◌}
use Rattle.std.specs.Prelude.{Ok, Err}
use Rattle.time.specs.Reply.{answer}
use Rattle.geometry.specs.declared.isometry.Isometry.{Isometry}
use Rattle.geometry.specs.Isometry.{identity}
use Rattle.registry.specs.declared.error.RegistryError.{RegistryError}
use Rattle.registry.specs.Store.{tree_of}
use Rattle.registry.specs.Answers.{Value, pose}
use Rattle.registry.specs.Calls.{words}
use Rattle.registry.specs.Path.{lookup_along, lookup_apart, lookup}
use Rattle.registry.specs.paths.Walks.{known_frames, ask_known}
use Rattle.registry.proofs.Errors.{refused_by, passed_on}
use Rattle.registry.proofs.paths.AskEnds.{ask_unknown, ask_same, ask_apart}
use Rattle.registry.proofs.checked.Checked.get_transform.Goals as goal

pub returns-in_err-find_frames : goal.returns-in_err-find_frames
unfolding lookup
returns-in_err-find_frames c =
    let s = words c.args.self.now.store in
    let a = c.args in
    let e = c.in_err-find_frames.field-0.0 in
    let found : Err e ≡ known_frames (tree_of s) a.target a.source = rw c.rows.ensures at (c.in_err-find_frames.ensures s.instants s.poses) in
    let unknown = ask_unknown (tree_of s) a.target a.source e (pose identity) (lookup_along a.t) (lookup_apart a.t) found in
    passed_on (λ p. pose p) c.from_residual.result e c.from_residual.ensures.1 ∙ ap (λ (e : RegistryError). refused_by {A = Value} e) unknown.1 ∙ unknown.2

pub returns-then-target-source : goal.returns-then-target-source
unfolding lookup
returns-then-target-source c =
    let s = words c.args.self.now.store in
    let a = c.args in
    let found : Ok tt ≡ known_frames (tree_of s) a.target a.source = rw c.rows.ensures at (c.in_ok-find_frames.ensures s.instants s.poses) in
    ap (λ (p : Isometry). answer (pose p)) c.identity.ensures ∙ ask_same (tree_of s) a.target a.source (pose identity) (lookup_along a.t) (lookup_apart a.t) found c.if-target-source.true

pub returns : goal.returns
unfolding lookup
returns c =
    let s = words c.args.self.now.store in
    let a = c.args in
    let found : Ok tt ≡ known_frames (tree_of s) a.target a.source = rw c.rows.ensures at (c.in_ok-find_frames.ensures s.instants s.poses) in
    c.resolve_known.ensures
    ∙ (λ j. ask_known (tree_of s) (c.from.ensures j) (c.from-2.ensures j) (lookup_along a.t) (lookup_apart a.t))
    ∙ ask_apart (tree_of s) a.target a.source (pose identity) (lookup_along a.t) (lookup_apart a.t) found c.if-target-source.false
