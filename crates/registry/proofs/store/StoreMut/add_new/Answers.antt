use Prim.Native.Nat.{ℕ, ◌<◌}
use mathlib.Core.Path.{◌≡◌, sym, ap, subst, ◌∙◌}
use mathlib.Core.List.{List}
use Rattle.std.specs.Prelude.{None}
use Rattle.time.specs.Reply.{answer}
use Rattle.buffer.specs.Row.{FloatsFit}
use Rattle.registry.specs.Store.{Store, rows_in, used_in, limits_of, tree_of}
use Rattle.registry.specs.Answers.{done}
use Rattle.registry.specs.Calls.{store_of, words_mut, written}
use Rattle.registry.specs.addition.Adding.{addition_of, admits}
use Rattle.registry.specs.layout.Rows.{StoredRow, put_into, empty_row, with_row}
use Rattle.registry.proofs.Errors.{passed_written}
use Rattle.registry.proofs.addition.Admitting.{admits_room}
use Rattle.registry.proofs.addition.AddWritten.{refused_written, absent_get, new_written}
use Rattle.registry.proofs.layout.NewRow.{row_room, new_asked}
use Rattle.registry.proofs.store.StoreMut.add_new.Goals as goal

pub returns-in_err-admit_new-clause-outcome : goal.returns-in_err-admit_new-clause-outcome
returns-in_err-admit_new-clause-outcome c =
    let s = words_mut c.args.self.now in
    let same = c.rows.ensures ∙ ap (λ (z : Store). z.head) c.as_checked.ensures.words in
    let a = c.args.added.now in
    passed_written c.from_residual.result c.in_err-admit_new.field-0.0 c.args.self.now c.from_residual.ensures.1
    ∙ refused_written (limits_of s) (tree_of s) (addition_of a) None (absent_get s c.requires.0 a.child a.parent a.stamp a.pose c.args.k c.requires.1) s
    (c.in_err-admit_new.ensures s.instants s.poses
    ∙ ap (λ (h : List ℕ). let z = store_of h s.instants s.poses in admits (limits_of z) (tree_of z) (addition_of a) None (answer done)) same)

pub new_row-requires : goal.new_row-requires
new_row-requires c =
    let s = words_mut c.args.self.now in
    let same = c.rows.ensures ∙ ap (λ (z : Store). z.head) c.as_checked.ensures.words in
    let a = c.args.added.now in
    let fit = subst (λ (s : Store). FloatsFit s.poses) c.as_checked.ensures.words c.as_checked.ensures.floats in
    let admitted : answer done ≡ admits (limits_of s) (tree_of s) (addition_of a) None (answer done) =
    c.in_ok-admit_new.ensures s.instants s.poses
    ∙ ap (λ (h : List ℕ). let z = store_of h s.instants s.poses in admits (limits_of z) (tree_of z) (addition_of a) None (answer done)) same
    in
    let room : used_in s < rows_in s = admits_room s (addition_of a) admitted in
    row_room s c.requires.0 fit c.args.k a.child a.parent c.kind.result c.requires.1 room

pub put_row-requires : goal.put_row-requires
put_row-requires c =
    let s = words_mut c.args.self.now in
    let same = c.rows.ensures ∙ ap (λ (z : Store). z.head) c.as_checked.ensures.words in
    let a = c.args.added.now in
    let fit = subst (λ (s : Store). FloatsFit s.poses) c.as_checked.ensures.words c.as_checked.ensures.floats in
    let admitted : answer done ≡ admits (limits_of s) (tree_of s) (addition_of a) None (answer done) =
    c.in_ok-admit_new.ensures s.instants s.poses
    ∙ ap (λ (h : List ℕ). let z = store_of h s.instants s.poses in admits (limits_of z) (tree_of z) (addition_of a) None (answer done)) same
    in
    let room : used_in s < rows_in s = admits_room s (addition_of a) admitted in
    let put : words_mut c.new_row.new.self ≡ with_row c.args.k (empty_row a.child a.parent c.kind.result) s =
    c.new_row.ensures.words ∙ (λ j. with_row c.args.k (empty_row (c.from.ensures j) (c.from-2.ensures j) c.kind.result) s)
    in
    subst (StoredRow c.args.k) (sym put) (new_asked s c.requires.0 fit c.args.k a.child a.parent c.kind.result c.requires.1 room)

pub returns-clause-outcome : goal.returns-clause-outcome
returns-clause-outcome c =
    let s = words_mut c.args.self.now in
    let same = c.rows.ensures ∙ ap (λ (z : Store). z.head) c.as_checked.ensures.words in
    let a = c.args.added.now in
    let fit = subst (λ (s : Store). FloatsFit s.poses) c.as_checked.ensures.words c.as_checked.ensures.floats in
    let admitted : answer done ≡ admits (limits_of s) (tree_of s) (addition_of a) None (answer done) =
    c.in_ok-admit_new.ensures s.instants s.poses
    ∙ ap (λ (h : List ℕ). let z = store_of h s.instants s.poses in admits (limits_of z) (tree_of z) (addition_of a) None (answer done)) same
    in
    let room : used_in s < rows_in s = admits_room s (addition_of a) admitted in
    let put : words_mut c.new_row.new.self ≡ with_row c.args.k (empty_row a.child a.parent c.kind.result) s =
    c.new_row.ensures.words ∙ (λ j. with_row c.args.k (empty_row (c.from.ensures j) (c.from-2.ensures j) c.kind.result) s)
    in
    c.put_row.ensures.outcome
    ∙ ap (λ (z : Store). written z (limits_of z) (put_into z c.args.k c.instant.result a.pose)) put
    ∙ new_written s c.requires.0 fit c.args.k a.child a.parent c.kind.result c.requires.1 room
    a.stamp a.pose c.kind.ensures c.instant.result c.instant.ensures admitted
