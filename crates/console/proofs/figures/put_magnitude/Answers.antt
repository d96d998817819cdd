use Rattle.std.proofs.Common.{sym, ◌∙◌}
use Rattle.console.specs.Figures.{magnitude_texts}
use Rattle.console.proofs.figures.put_magnitude.Goals as goal

pub returns-then-x : goal.returns-then-x
unfolding magnitude_texts
returns-then-x c = rw c.if-x.true c.put_plain.ensures

pub returns-then-x-2 : goal.returns-then-x-2
unfolding magnitude_texts
returns-then-x-2 c = rw (c.if-x.false, c.if-x-2.true, ← c.multiplied.ensures) c.put_scaled.ensures

pub returns-then-x-3 : goal.returns-then-x-3
unfolding magnitude_texts
returns-then-x-3 c = rw (c.if-x.false, c.if-x-2.false, c.if-x-3.true) c.put_plain-then-x-3.ensures

pub returns-then-is_finite : goal.returns-then-is_finite
unfolding magnitude_texts
returns-then-is_finite c = rw (c.if-x.false, c.if-x-2.false, c.if-x-3.false, sym c.is_finite.ensures ∙ c.if-is_finite.true, ← c.divided.ensures) c.put_scaled-then-is_finite.ensures

pub returns-else-is_finite : goal.returns-else-is_finite
unfolding magnitude_texts
returns-else-is_finite c = rw (c.if-x.false, c.if-x-2.false, c.if-x-3.false, sym c.is_finite.ensures ∙ c.if-is_finite.false) c.write_bytes.ensures
