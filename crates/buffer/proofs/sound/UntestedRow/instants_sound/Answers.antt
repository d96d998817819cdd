use Rattle.std.proofs.Common.{sym, ◌∙◌}
use Rattle.buffer.proofs.SoundTests.{static_others, not_rising, when_rising}
use Rattle.buffer.proofs.sound.UntestedRow.instants_sound.Goals as goal

pub returns-else-self-eq1 : goal.returns-else-self-eq1
returns-else-self-eq1 c poses = let s = c.args.self.now in
    rw c.in-Static.is (static_others c.args.max_age s.count s.instants.now poses c.if-self-eq1.false)

pub returns-else-not-rising : goal.returns-else-not-rising
returns-else-not-rising c poses = let s = c.args.self.now in
    rw c.in-Dynamic.is (c.is_fresh.ensures poses ∙ when_rising c.args.max_age s.count s.instants.now poses c.requires (sym c.rising.ensures ∙ c.if-not-rising.false))

pub returns-then-not-rising : goal.returns-then-not-rising
returns-then-not-rising c poses = let s = c.args.self.now in
    rw c.in-Dynamic.is (not_rising c.args.max_age s.count s.instants.now poses c.requires (sym c.rising.ensures ∙ c.if-not-rising.true))
