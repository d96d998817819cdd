use Rattle.std.proofs.Common.{[], sym}
use Rattle.buffer.specs.Samples.{newest}
use Rattle.buffer.specs.Row.{samples_of}
use Rattle.buffer.proofs.Places.{rising_held}
use Rattle.buffer.proofs.SoundTests.{all_survive, range_up, range_fresh}
use Rattle.buffer.proofs.times.Times.is_fresh.Goals as goal

pub returns-in_default : goal.returns-in_default
returns-in_default c poses = let m = samples_of c.args.self.now.count c.args.self.now.instants.now poses in
    rw c.in_default.is (sym (all_survive (newest m) m))

pub overflow_sub-result : goal.overflow_sub-result
overflow_sub-result c = let s = c.args.self.now in
    range_up (samples_of s.count s.instants.now []) _ _ (sym (c.in-Some-range.ensures []))

pub returns : goal.returns
returns c poses = let s = c.args.self.now in
    rw c.in-Some.is (range_fresh _ (samples_of s.count s.instants.now poses) _ _ (rising_held s.count s.instants.now poses s.held) (sym (c.in-Some-range.ensures poses)))
