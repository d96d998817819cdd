use Rattle.std.proofs.Common.{◌∙◌}
use Rattle.console.specs.Why.{tree_texts}
use Rattle.console.proofs.Path.{unknown_by}
use Rattle.console.proofs.why.put_sound.Goals as goal

pub returns-then-is_err_and : goal.returns-then-is_err_and
unfolding tree_texts
returns-then-is_err_and c = rw (← c.get_transform-seen.ensures, unknown_by _ _ c.is_err_and.ensures ∙ c.if-is_err_and.true) c.put_lookup.ensures

pub returns-else-is_err_and : goal.returns-else-is_err_and
unfolding tree_texts
returns-else-is_err_and c = rw (← c.get_transform-seen.ensures, unknown_by _ _ c.is_err_and.ensures ∙ c.if-is_err_and.false) c.put_path.ensures
