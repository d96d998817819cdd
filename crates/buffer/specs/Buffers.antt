-- What a buffer holds, and what a call leaves of one that is written.
use Rattle.std.specs.Prelude.{◌≡◌}
use Rattle.buffer.specs.declared.buffer.Buffer.{Buffer}
use Rattle.buffer.specs.declared.buffer.BufferMut.{BufferMut}
use Rattle.buffer.specs.Samples.{Samples}
use Rattle.buffer.specs.Row.{samples_of}

abbrev pub samples : Buffer → Samples
samples b = samples_of b.count b.instants.now b.poses.now

abbrev pub samples_mut : BufferMut → Samples
samples_mut b = samples_of b.count b.instants.now b.poses.now

-- the same slices, of a row of the same kind
pub record SameRow (old new : BufferMut) : Type 0 where
  pub instants : new.instants.ghost_name ≡ old.instants.ghost_name
  pub poses : new.poses.ghost_name ≡ old.poses.ghost_name
  pub kind : new.kind ≡ old.kind
