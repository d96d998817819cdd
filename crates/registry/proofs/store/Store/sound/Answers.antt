use mathlib.Core.Path.{◌≡◌, sym, ◌∙◌}
use mathlib.Core.Bool.{true}
use lib.Dec.{leb}
use lib.ListN.{length}
use borrow.Author.Tests.{leb-true}
use Rattle.buffer.proofs.Cases.{and_left}
use Rattle.registry.specs.Store.{sized}
use Rattle.registry.specs.Calls.{words}
use Rattle.registry.specs.soundness.Checks.{head_sound}
use Rattle.registry.proofs.soundness.Checking.{head_asked, parts_used, head_unsound, rows_unsound, all_rules}
use Rattle.registry.proofs.store.Store.sound.Goals as goal

pub invariant_of-head : goal.invariant_of-head
unfolding sized
invariant_of-head c = let s = words c.args.self.now in record { header = leb-true 5 (length s.head) (and_left (leb 5 (length s.head)) _ c.requires) }

pub is_sound-requires : goal.is_sound-requires
is_sound-requires c = head_asked (words c.args.self.now) c.requires

pub returns-then-not-is_sound : goal.returns-then-not-is_sound
returns-then-not-is_sound c =
    let s = words c.args.self.now in
    sym (head_unsound s (sym (c.is_sound.ensures s.instants s.poses) ∙ c.if-not-is_sound.true))

pub invariant_of-parts : goal.invariant_of-parts
invariant_of-parts c =
    let s = words c.args.self.now in
    record { within = parts_used s c.requires (sym (c.is_sound.ensures s.instants s.poses) ∙ c.if-not-is_sound.false) }

pub returns-then-rows_sound : goal.returns-then-rows_sound
returns-then-rows_sound c =
    let s = words c.args.self.now in
    let head : head_sound s ≡ true = sym (c.is_sound.ensures s.instants s.poses) ∙ c.if-not-is_sound.false in
    sym (all_rules s _ head (sym c.rows_sound.ensures ∙ c.if-rows_sound.true) (sym c.unused_rows_zero.ensures))

pub returns-else-rows_sound : goal.returns-else-rows_sound
returns-else-rows_sound c =
    let s = words c.args.self.now in
    let head : head_sound s ≡ true = sym (c.is_sound.ensures s.instants s.poses) ∙ c.if-not-is_sound.false in
    c.if-rows_sound.false ∙ sym (rows_unsound s head (sym c.rows_sound.ensures ∙ c.if-rows_sound.false))
