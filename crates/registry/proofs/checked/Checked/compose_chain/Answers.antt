use Rattle.registry.specs.Tree.{Tree}
use Rattle.registry.specs.Store.{tree_of}
use Rattle.registry.specs.Calls.{words}
use Rattle.registry.proofs.paths.SideHops.{less_above}
use Rattle.registry.proofs.paths.SoundWalks.{sound_grounded}
use Rattle.registry.proofs.lookup.Composing.{pose_parent, composing_hop}
use Rattle.registry.proofs.checked.Checked.compose_chain.Goals as goal

pub loop-at-smaller : goal.loop-at-smaller
loop-at-smaller c =
    let s = c.args.self.now in
    let tree : Tree = tree_of (words s.store) in
    less_above tree (sound_grounded (words s.store) s.sound) c.loop-at.at _
    (pose_parent tree c.loop-at.at c.args.t _ _ (rw c.in-Some.is at c.in_ok-pose.ensures))

pub loop-at-preserved : goal.loop-at-preserved
loop-at-preserved c =
    let s = c.args.self.now in
    let l = c.loop-at in
    rw c.onto.ensures
    (composing_hop (tree_of (words s.store)) c.args.frame c.args.top c.args.t l.at l.below l.invariant (sound_grounded (words s.store) s.sound) c.loop-at-test.true
    _ (rw c.in-Some.is at c.in_ok-pose.ensures))
