use Rattle.std.proofs.Common.{arith, None, ◌≡◌, ◌<◌, get_or}
use Rattle.buffer.proofs.Inserting.{inserted_row, replaces, inserts}
use Rattle.buffer.proofs.buffer.BufferMut.put.Goals.{else-at-self-via-then-at-self+else-self-at, else-at-self-via-else-at-self}
use Rattle.buffer.proofs.buffer.BufferMut.put.Goals as goal

pub invariant_of-self : goal.invariant_of-self
invariant_of-self c = let s = c.args.self.now in
    let place = rw (c.view.ensures.count, c.view.ensures.instants) at c.place-at.ensures.place in
    let left = replaces s.count s.instants.now s.poses.now s.held c.args.t c.place-at.result place c.write_pose.ensures.fit c.args.pose c.if-at-self.true c.if-self-at.true _ c.write_pose.ensures.words in
    record { held = inserted_row s.count s.instants.now s.poses.now s.held None c.args.t c.args.pose _ _ _ left }

pub invariant_of-self-2 : goal.invariant_of-self-2
invariant_of-self-2 c = let s = c.args.self.now in
    let place = rw (c.view.ensures.count, c.view.ensures.instants) at c.place-at.ensures.place in
    let new : c.place-at.result < s.count → get_or s.instants.now c.place-at.result 0 ≡ c.args.t → ⊥ =
    λ h e. elim c.else-at-self.branch [ else-at-self-via-then-at-self+else-self-at w ↦ w.if-self-at.false e | else-at-self-via-else-at-self w ↦ absurd (omega (arith, h)) ] in
    let left = inserts s.count s.instants.now s.poses.now s.held c.args.t c.place-at.result place c.insert_pose.ensures.fit c.args.pose (omega arith) new _ _ c.insert.ensures c.insert_pose.ensures.words in
    record { held = inserted_row s.count s.instants.now s.poses.now s.held None c.args.t c.args.pose _ _ _ left }
