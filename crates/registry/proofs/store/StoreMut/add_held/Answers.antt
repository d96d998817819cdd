use Prim.Native.Nat.{ℕ, ◌^◌, ◌<◌}
use mathlib.Core.Path.{sym, ap, subst, ◌∙◌}
use mathlib.Core.List.{List}
use Rattle.std.specs.Prelude.{Some}
use Rattle.time.specs.Reply.{answer}
use Rattle.registry.specs.Store.{Store, used_in, limits_of, parent_in, edge_at, tree_of}
use Rattle.registry.specs.Answers.{done}
use Rattle.registry.specs.Calls.{store_of, words_mut}
use Rattle.registry.specs.addition.Adding.{addition_of, admits}
use Rattle.registry.specs.layout.Rows.{head_of}
use Rattle.buffer.specs.Row.{FloatsFit}
use Rattle.registry.proofs.Errors.{passed_written}
use Rattle.registry.proofs.soundness.SoundStore.{sound_parent}
use Rattle.registry.proofs.layout.StoredRows.{sound_held}
use Rattle.registry.proofs.addition.AddWritten.{refused_written, held_get, held_written}
use Rattle.registry.proofs.store.StoreMut.add_held.Goals as goal

pub admit_held-requires : goal.admit_held-requires
admit_held-requires c =
    let s = words_mut c.args.self.now in
    let r = c.args.r in
    let l = c.requires.1.used in
    let same = c.rows.ensures ∙ ap (λ (z : Store). z.head) c.as_checked.ensures.words in
    subst (λ (h : List ℕ). (r < used_in (head_of h)) × (parent_in (head_of h) r < 2 ^ 32)) (sym same) (l, sound_parent s c.requires.0 r l)

pub returns-in_err-admit_held-clause-outcome : goal.returns-in_err-admit_held-clause-outcome
returns-in_err-admit_held-clause-outcome c =
    let s = words_mut c.args.self.now in
    let a = c.args.added.now in
    let r = c.args.r in
    let same = c.rows.ensures ∙ ap (λ (z : Store). z.head) c.as_checked.ensures.words in
    passed_written c.from_residual.result c.in_err-admit_held.field-0.0 c.args.self.now c.from_residual.ensures.1
    ∙ refused_written (limits_of s) (tree_of s) (addition_of a) (Some (edge_at s r)) (held_get s c.requires.0 a.child a.parent a.stamp a.pose r c.requires.1) s
    (c.in_err-admit_held.ensures (limits_of s) (tree_of s) s.instants s.poses
    ∙ ap (λ (h : List ℕ). admits (limits_of s) (tree_of s) (addition_of a) (Some (edge_at (store_of h s.instants s.poses) r)) (answer done)) same)

pub put_row-requires : goal.put_row-requires
put_row-requires c =
    let fit = subst (λ (s : Store). FloatsFit s.poses) c.as_checked.ensures.words c.as_checked.ensures.floats in
    sound_held (words_mut c.args.self.now) c.requires.0 fit c.args.r c.requires.1.used

pub returns-clause-outcome : goal.returns-clause-outcome
returns-clause-outcome c =
    let s = words_mut c.args.self.now in
    let a = c.args.added.now in
    let r = c.args.r in
    let same = c.rows.ensures ∙ ap (λ (z : Store). z.head) c.as_checked.ensures.words in
    c.put_row.ensures.outcome
    ∙ held_written s c.requires.0 a.child a.parent a.stamp a.pose r c.requires.1 c.instant.result c.instant.ensures
    (c.in_ok-admit_held.ensures (limits_of s) (tree_of s) s.instants s.poses
    ∙ ap (λ (h : List ℕ). admits (limits_of s) (tree_of s) (addition_of a) (Some (edge_at (store_of h s.instants s.poses) r)) (answer done)) same)
