use Rattle.std.proofs.Common.{◌∙◌, rules, arith}
use Rattle.text.proofs.Stores.{digit_stored}
use Rattle.text.proofs.write.Writer.write_digits.Goals as goal

pub loop-i-preserved : goal.loop-i-preserved
loop-i-preserved c = let l = c.loop-i in record {
  same_buffer = l.invariant.same_buffer;
  same_place = l.invariant.same_place;
  same_length = search rules;
  text = rw c.digit_character.ensures (l.invariant.text ∙ digit_stored c.args.base l.rest l.self.out.now l.self.at l.i (omega arith));
}
