use mathlib.Core.Path.{refl}
use native.Mathlib.Omega.{arith}
use Rattle.registry.specs.Calls.{store_of}
use Rattle.registry.proofs.paths.SideHops.{grounded}
use Rattle.registry.proofs.paths.ClimbingBoth.{climbs_target, climbs_source, climbs_meet_lem, climbs_apart}
use Rattle.registry.proofs.rows.Rows.climb_both.Goals as goal

pub loop-f-init : goal.loop-f-init
loop-f-init c i p z = record { target = c.requires.0 i p; source = c.requires.1 i p; ends = (refl, refl) }

pub loop-f-preserved-then-f-g : goal.loop-f-preserved-then-f-g
loop-f-preserved-then-f-g c i p z = climbs_source _ (grounded (store_of c.args.self.now.head.now i p) c.args.self.now.rising z) _ _ _ _ _ _ (c.loop-f.invariant i p z)
    c.loop-f-test.true (omega arith) (omega arith) _ (c.step_up.ensures i p)

pub returns-then-f-eq0 : goal.returns-then-f-eq0
returns-then-f-eq0 c i p z = climbs_apart _ (grounded (store_of c.args.self.now.head.now i p) c.args.self.now.rising z) _ _ _ _ _ _ (c.loop-f.invariant i p z) (omega arith) (omega arith)

pub loop-f-preserved : goal.loop-f-preserved
loop-f-preserved c i p z = climbs_target _ (grounded (store_of c.args.self.now.head.now i p) c.args.self.now.rising z) _ _ _ _ _ _ (c.loop-f.invariant i p z)
    c.loop-f-test.true (omega arith) (omega arith) _ (c.step_up-else-f-g.ensures i p)

pub returns-after-loop-f : goal.returns-after-loop-f
returns-after-loop-f c i p z = climbs_meet_lem _ (grounded (store_of c.args.self.now.head.now i p) c.args.self.now.rising z) _ _ _ _ _ _ (c.loop-f.invariant i p z) c.loop-f-test.false
