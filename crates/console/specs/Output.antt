-- What writing out leaves of a writer.
use Rattle.std.specs.Prelude.{◌≡◌}
use Rattle.text.specs.declared.write.Writer.{Writer}

-- the buffer is still the one that was lent, and has the same bytes
pub record SameBuffer (v w : Writer) : Type 0 where
  pub lent : w.out.ghost_name ≡ v.out.ghost_name
  pub bytes : w.out.now ≡ v.out.now
