-- A record is refused with 7, 3, 4, 5, 6 or 16 alone.
use Prim.Native.Nat.{ℕ, suc}
use mathlib.Core.Path.{◌≡◌, refl, sym, ap, subst, ◌∙◌}
use Rattle.std.specs.Prelude.{Some}
use mathlib.Core.List.{List, [], ◌∷◌}
use Rattle.time.specs.Reply.{Reply, answer, refusal}
use Rattle.buffer.proofs.Cases.{none_some}
use Rattle.registry.specs.Tree.{Tree, Limits, Addition, add}
use Rattle.registry.specs.Store.{Store, stored, limits_of}
use Rattle.registry.specs.Calls.{Outcome, written}
use Rattle.registry.proofs.Fits.{refusal_fits}
use Rattle.registry.proofs.Held.{Holds, holds_added, stored_holds, sizes_in_range, none_held}
use Rattle.map_file.specs.Form.{Name, Record}
use Rattle.map_loading.specs.Loading.{Loading, unless_refused, add_all, load_of}
use Rattle.map_loading.specs.Laws as laws
use Rattle.map_loading.specs.Laws.{RefusedWith, RecordRefusals}
use Rattle.map_loading.proofs.LoadCases.{Load, none_read, read, load_cases}
use Rattle.map_loading.specs.Numbering.{names_after, addition_after}
use Rattle.map_loading.proofs.MapAdditions.{additions_after, additions_are}
use Rattle.map_loading.proofs.LoadedTree.{LoadedSoFar, refused_only, loaded_more, loaded_first}

-- what is said of a load that refuses a record
abbrev Listed : Loading → Type 0
Listed w = (m : ℕ) → w.record? ≡ Some m → RefusedWith w.reply laws.record_refusals

module _ (found : Store) where
  -- the load that the rest is, once the first addition has this outcome
  abbrev after : ℕ → List Addition → Outcome → Loading
  after n more o = unless_refused found n o.reply (add_all found (suc n) o.store more)

  refused_listed : (n : ℕ) (s : Store) (L : Limits) (t : Tree) (names : List Name) → Holds L s t → LoadedSoFar L t names → (rs : List Record)
      → Listed (add_all found n s (additions_after names rs))
  refused_listed n s L t names h ok [] = λ m e. absurd (none_some e)
  refused_listed n s L t names h ok (r ∷ rs) =
      subst Listed (sym (ap (after n (additions_after (names_after names r) rs)) (holds_added L s t h (addition_after names r))))
      (by (add L t (addition_after names r)) refl
      (λ u more. refused_listed (suc n) (stored L u) L u (names_after names r) (stored_holds L u more.range more.rules) more rs))
    where
      by : (q : Reply Tree) → add L t (addition_after names r) ≡ q
          → ((u : Tree) → LoadedSoFar L u (names_after names r) → Listed (add_all found (suc n) (stored L u) (additions_after (names_after names r) rs)))
          → Listed (after n (additions_after (names_after names r) rs) (written s L q))
      by (answer u) q ih = ih u (loaded_more L t names ok r u q)
      by (refusal k c) q ih = λ m e. record { number = k; carried = c; is = refl; listed = refusal_fits (refused_only L t names ok r) q }

pub record_refusals : RecordRefusals
record_refusals s bytes n e = by (load_cases s bytes)
  where
    by : Load s bytes → RefusedWith (load_of s bytes).reply laws.record_refusals
    by (none_read k f q l) = absurd (none_some (rw l at e))
    by (read rs p q l) =
        let here : load_of s bytes ≡ add_all s 0 s (additions_after [] rs) = l ∙ ap (add_all s 0 s) (additions_are rs) in
        let first = loaded_first (limits_of s) (sizes_in_range s p.checked) in
        subst Listed (sym here) (refused_listed s 0 s (limits_of s) [] [] (none_held s p.checked p.empty) first rs) n e
