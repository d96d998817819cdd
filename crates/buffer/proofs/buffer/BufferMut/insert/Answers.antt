use Rattle.std.proofs.Common.{◌∙◌}
use Rattle.buffer.proofs.Inserting.{expired, on_refusal}
use Rattle.buffer.proofs.buffer.BufferMut.insert.Goals as goal

pub returns-then-t-since-clause-left : goal.returns-then-t-since-clause-left
returns-then-t-since-clause-left c = let s = c.args.self.now in
    let v = c.view-held.ensures in
    let late = rw (v.count, v.instants, v.poses) at c.newest_with.ensures in
    let place = rw (v.count, v.instants) at c.place-expired.ensures.place in
    let facts = expired s.count s.instants.now s.poses.now s.held c.drop_first.ensures.fit c.args.max_age c.args.t c.args.pose _ _ late c.oldest-since.ensures _ place _ _ _ c.drop_first.ensures.left in
    facts.too_old c.if-t-since.true

pub returns-clause-count : goal.returns-clause-count
returns-clause-count c = let s = c.args.self.now in
    let v = c.view-held.ensures in
    let late = rw (v.count, v.instants, v.poses) at c.newest_with.ensures in
    let place = rw (v.count, v.instants) at c.place-expired.ensures.place in
    let facts = expired s.count s.instants.now s.poses.now s.held c.drop_first.ensures.fit c.args.max_age c.args.t c.args.pose _ _ late c.oldest-since.ensures _ place _ _ _ c.drop_first.ensures.left in
    on_refusal c.put.result _ _ _ _ c.put.ensures.count c.put.ensures.left (λ k d e same. same ∙ facts.whole k d _ _ e)

pub returns-clause-left : goal.returns-clause-left
returns-clause-left c = let s = c.args.self.now in
    let v = c.view-held.ensures in
    let late = rw (v.count, v.instants, v.poses) at c.newest_with.ensures in
    let place = rw (v.count, v.instants) at c.place-expired.ensures.place in
    let facts = expired s.count s.instants.now s.poses.now s.held c.drop_first.ensures.fit c.args.max_age c.args.t c.args.pose _ _ late c.oldest-since.ensures _ place _ _ _ c.drop_first.ensures.left in
    c.put.ensures.left ∙ facts.held_too c.if-t-since.false
