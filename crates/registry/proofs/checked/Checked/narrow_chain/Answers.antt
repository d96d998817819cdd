use mathlib.Core.Path.{◌∙◌}
use native.Mathlib.Omega.{arith}
use Rattle.registry.specs.Tree.{Tree}
use Rattle.registry.specs.Store.{tree_of}
use Rattle.registry.specs.Calls.{words}
use Rattle.registry.proofs.paths.SideHops.{less_above}
use Rattle.registry.proofs.paths.SoundWalks.{sound_child, sound_grounded}
use Rattle.registry.proofs.common_time.Narrowing.{coverage_parent, narrowing_hop}
use Rattle.registry.proofs.checked.Checked.narrow_chain.Goals as goal

pub overflow_cast-at : goal.overflow_cast-at
overflow_cast-at c =
    let s = c.args.self.now in
    let child = coverage_parent (tree_of (words s.store)) c.loop-at.at _ _ c.in-Some.ensures in
    let fits = sound_child (words s.store) s.sound c.loop-at.at child.0 child.1 in
    omega (arith, fits)

pub loop-at-smaller : goal.loop-at-smaller
loop-at-smaller c =
    let s = c.args.self.now in
    let tree : Tree = tree_of (words s.store) in
    less_above tree (sound_grounded (words s.store) s.sound) c.loop-at.at _ (coverage_parent tree c.loop-at.at _ _ c.in-Some.ensures)

pub loop-at-preserved : goal.loop-at-preserved
loop-at-preserved c =
    let s = c.args.self.now in
    let l = c.loop-at in
    narrowing_hop (tree_of (words s.store)) c.args.frame c.args.top _ l.at _ l.invariant (sound_grounded (words s.store) s.sound) c.loop-at-test.true _ c.in-Some.ensures
    ∙ rw (← c.in_ok-common_span.ensures)
