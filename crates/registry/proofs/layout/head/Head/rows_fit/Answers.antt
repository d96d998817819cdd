use mathlib.Core.Path.{refl, ap, ◌∙◌}
use Prim.Native.Nat.{ℕ}
use native.Mathlib.Omega.{arith}
use Rattle.std.proofs.Common.{rules, tests}
use Rattle.std.proofs.lemmas.Iterator.{YieldsList-from_range}
use Rattle.std.proofs.lemmas.Iterator.Search.{all_from_yields_List}
use Rattle.registry.specs.Sound.{every}
use Rattle.registry.specs.soundness.Checks.{row_fits}
use Rattle.registry.proofs.soundness.EveryRow.{every_by_range}
use Rattle.registry.proofs.layout.head.Head.rows_fit.Goals as goal

pub returns : goal.returns
returns c =
    let test = row_fits c.args.self.now.words.now in
    all_from_yields_List test _ _ _ c.all.ensures.ran (YieldsList-from_range 0 c.used.result c.used.result refl (omega arith)) (λ x b q k. search (rules, tests))
    ∙ every_by_range test c.used.result ∙ ap (λ (n : ℕ). every n test) c.used.ensures
