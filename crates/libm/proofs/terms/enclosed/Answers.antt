use Rattle.libm.proofs.Enclosure.{all_but_eight}
use Rattle.libm.proofs.terms.enclosed.Goals as goal

pub returns : goal.returns
returns c =
    let (low, high, within, lo, hi) = c.requires in
    let (l, h, start) = c.start.ensures in
    all_but_eight _ _ _ _ _ _ _ _ _ _ low high within lo hi l h (start _ _ low high) c.steps-rough.ensures.0 c.steps-rough.ensures.1 c.steps.ensures.0 c.steps.ensures.1
