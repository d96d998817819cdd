-- The first of 1, 2, 19 and 18 that is due is answered, as no record's; where none is due, done or a record's refusal is.
use Prim.Native.Nat.{ℕ}
use mathlib.Core.Path.{◌≡◌, refl, sym, ap, ◌∙◌}
use mathlib.Core.Bool.{not}
use Rattle.std.specs.Prelude.{Option, None, Some}
use mathlib.Core.List.{List, [], ◌∷◌}
use Rattle.time.specs.Reply.{nothing, refuse}
use Rattle.time.specs.Order.{when, due_or, first_due, refused}
use Rattle.geometry.proofs.Order.{refuse_due}
use Rattle.buffer.proofs.Cases.{none_some}
use Rattle.registry.specs.Tree.{holds_no_frame}
use Rattle.registry.specs.Store.{Store, tree_of}
use Rattle.registry.proofs.orders.Lent.{lent_due_lem}
use Rattle.map_file.specs.Form.{Record, records, formed}
use Rattle.map_loading.specs.Loading.{additions, load_of}
use Rattle.map_loading.specs.Laws.{is_none, load_order, load_due, LoadFirstDue}
use Rattle.map_loading.proofs.AddAll.{all_added}
use Rattle.map_loading.proofs.LoadCases.{read_from, Load, none_read, read, load_cases}

-- 18 is due where there are no records
form_due : (found : Option (List Record)) → refused (formed found additions) ≡ due_or 18 (when (is_none found) nothing) None
form_due None = refl
form_due (Some rs) = refl

read_due : (s : Store) (bytes : List ℕ) → refused (read_from s bytes) ≡ first_due (load_due s bytes) load_order
unfolding load_due
read_due s bytes =
    lent_due_lem s (λ L t. refuse (not (holds_no_frame t)) 19 nothing (formed (records bytes) additions))
    ((18, when (is_none (records bytes)) nothing) ∷ (19, when (not (holds_no_frame (tree_of s))) nothing) ∷ []) (19 ∷ 18 ∷ []) refl
    (λ ok. refuse_due (not (holds_no_frame (tree_of s))) 19 nothing _ _ (form_due (records bytes)))

pub load_first_due : LoadFirstDue
load_first_due = record { whole = λ s bytes e. of_whole s bytes e (load_cases s bytes); of_record = λ s bytes n e. of_record_lem s bytes n e (load_cases s bytes) }
  where
    of_whole : (s : Store) (bytes : List ℕ) → (load_of s bytes).record? ≡ None → Load s bytes → refused (load_of s bytes).reply ≡ first_due (load_due s bytes) load_order
    of_whole s bytes e (none_read k f q l) = rw l (sym (ap refused q) ∙ read_due s bytes)
    of_whole s bytes e (read rs p q l) =
        let all = all_added s 0 s (additions rs) (rw l at e) in
        rw l (ap refused all.reply ∙ sym (ap refused q) ∙ read_due s bytes)

    of_record_lem : (s : Store) (bytes : List ℕ) (n : ℕ) → (load_of s bytes).record? ≡ Some n → Load s bytes → first_due (load_due s bytes) load_order ≡ None
    of_record_lem s bytes n e (none_read k f q l) = absurd (none_some (rw l at e))
    of_record_lem s bytes n e (read rs p q l) = sym (read_due s bytes) ∙ ap refused q
