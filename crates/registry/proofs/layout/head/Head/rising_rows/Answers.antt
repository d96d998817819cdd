use native.Mathlib.Omega.{arith}
use Rattle.registry.proofs.soundness.HeadTests.{rise_fails, rise_all, neighbours_rise}
use Rattle.registry.proofs.layout.head.Head.rising_rows.Goals as goal

pub returns-then-child-clause-rises : goal.returns-then-child-clause-rises
returns-then-child-clause-rises c = rise_fails c.args.self.now.words.now c.loop-r.r (omega (arith, c.loop-r.auto)) (omega (arith, c.used-r-end.ensures))
    (omega (arith, c.if-child.true, c.child.ensures, c.child-in-loop-r.ensures))

pub invariant_of-result : goal.invariant_of-result
invariant_of-result c = record {
  rising = record {
    within = c.requires;
    rises = neighbours_rise c.args.self.now.words.now _ (λ k l z. c.loop-r.invariant k (omega (arith, c.used-r-end.ensures)) z);
  };
}

pub returns-clause-rises : goal.returns-clause-rises
returns-clause-rises c = rise_all c.args.self.now.words.now (λ k l z. c.loop-r.invariant k (omega (arith, c.used-r-end.ensures)) z)
