use Rattle.std.proofs.Common.{ℕ, Float, sym, subst}
use Rattle.time.specs.Float.{one64}
use Rattle.libm.specs.Enclosure.{Encloses}
use Rattle.libm.proofs.Enclosure.{one_bound, two_bound, at_start, later}
use Rattle.libm.proofs.terms.start.Goals as goal

pub returns-then-k-eq48 : goal.returns-then-k-eq48
returns-then-k-eq48 c = (one_bound, one_bound, λ (least most : Float) a b. subst (λ (k : ℕ). Encloses least most k one64 one64) (sym c.if-k-eq48.true) (at_start least most))

pub returns-else-k-eq48 : goal.returns-else-k-eq48
returns-else-k-eq48 c = (one_bound, two_bound, λ (least most : Float) a b. later least most c.args.k a b c.requires)
