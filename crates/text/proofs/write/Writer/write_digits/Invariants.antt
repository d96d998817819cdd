use Rattle.std.proofs.Common.{◌≡◌, ◌-◌, length}
use lib.Seq.{sets}
use Rattle.text.specs.Digits.{digits}
use Rattle.text.proofs.write.Writer.write_digits.Given as goal

-- the text is what is written and the digits that are left
abbrev pub invariant-loop-i : goal.invariant-loop-i
invariant-loop-i l = record {
  same_buffer : l.self.out.ghost_name ≡ l.fn.self.out.ghost_name;
  same_place : l.self.at ≡ l.fn.self.at;
  same_length : length l.self.out.now ≡ length l.fn.self.out.now;
  text : sets l.fn.self.out.now l.fn.self.at (digits l.base l.k l.n) ≡ sets l.self.out.now l.self.at (digits l.base (l.i - l.self.at) l.rest);
}
