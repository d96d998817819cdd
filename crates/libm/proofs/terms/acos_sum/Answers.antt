use Rattle.std.proofs.Common.{sym, ◌∙◌, subst}
use lib.Dec.{T}
use Rattle.time.specs.Float.{one64}
use Rattle.libm.proofs.Series.{run_all}
use Rattle.libm.proofs.Enclosure.{met, tested, square_itself}
use Rattle.libm.proofs.terms.acos_sum.Goals as goal

pub enclosed-bounds-requires : goal.enclosed-bounds-requires
enclosed-bounds-requires c =
    let (low, high, within) = tested _ _ _ (subst T (sym c.if-around-square.true) tt) in
    (low, high, within, c.enough.ensures.0, c.enough.ensures.1)

pub returns-then-bounds : goal.returns-then-bounds
returns-then-bounds c =
    let (low, high, stands) = c.enclosed-bounds.ensures in
    let itself = square_itself _ _ _ (subst T (sym c.if-around-square.true) tt) in
    met c.args.z _ _ low high (stands c.args.z itself) (subst T (sym c.if-bounds.true) tt)

pub returns : goal.returns
returns c = c.steps.ensures.0 ∙ run_all 48 _ one64
