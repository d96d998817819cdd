use Rattle.buffer.proofs.Inserting.{first_dropped, dropped_row}
use Rattle.buffer.proofs.buffer.BufferMut.drop_first.Goals as goal

pub invariant_of-self : goal.invariant_of-self
invariant_of-self c = let s = c.args.self.now in
    let w = c.drop_words.ensures in
    record { held = dropped_row s.count s.instants.now s.poses.now s.held c.args.dropped _ _ _ (first_dropped s.count s.instants.now s.poses.now s.held w.fit c.args.dropped c.requires _ _ w.instants w.poses) }

pub returns-clause-left : goal.returns-clause-left
returns-clause-left c = let s = c.args.self.now in
    let w = c.drop_words.ensures in
    first_dropped s.count s.instants.now s.poses.now s.held w.fit c.args.dropped c.requires _ _ w.instants w.poses
