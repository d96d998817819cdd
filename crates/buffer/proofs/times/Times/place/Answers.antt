use mathlib.Core.Path.{◌≡◌}
use native.Mathlib.Nat.{lt_of_le_of_lt, le_trans}
use native.Mathlib.Omega.{arith}
use Rattle.buffer.proofs.Places.{place_is, held_lt, held_le}
use Rattle.buffer.proofs.times.Times.place.Goals as goal

pub loop-low-preserved-then-instant-t : goal.loop-low-preserved-then-instant-t
loop-low-preserved-then-instant-t c = let l = c.loop-low in
    let le = held_le c.args.self.now.count c.args.self.now.instants.now c.args.self.now.held in (
      omega arith,
      omega arith,
      λ k p. lt_of_le_of_lt (le k _ (omega arith) (omega arith)) c.if-instant-t.true,
      l.invariant.3,
    )

pub returns-then-instant-t-2-clause-place : goal.returns-then-instant-t-2-clause-place
returns-then-instant-t-2-clause-place c = let here = c.if-instant-t-2.true in
    place_is c.args.self.now.count c.args.self.now.instants.now c.args.self.now.held c.args.t _
    (omega arith)
    (λ k p. rw (← here) (held_lt c.args.self.now.count c.args.self.now.instants.now c.args.self.now.held k _ p (omega arith)))
    (λ k p q. rw (← here) (held_le c.args.self.now.count c.args.self.now.instants.now c.args.self.now.held _ k p q))

pub loop-low-preserved : goal.loop-low-preserved
loop-low-preserved c = let l = c.loop-low in
    let le = held_le c.args.self.now.count c.args.self.now.instants.now c.args.self.now.held in (
      omega arith,
      omega arith,
      l.invariant.2,
      λ k p q. le_trans c.if-instant-t.false (le _ k p q),
    )

pub returns-clause-place : goal.returns-clause-place
returns-clause-place c = let l = c.loop-low in
    let e : l.low ≡ l.high = omega arith in
    place_is c.args.self.now.count c.args.self.now.instants.now c.args.self.now.held c.args.t l.low (omega arith) l.invariant.2 (λ k p q. l.invariant.3 k (omega arith) q)
