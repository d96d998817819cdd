-- What is known while the records of a map are added one by one: where it begins, what one more record makes of it, and what the load then is.
use Prim.Native.Nat.{ℕ, suc, ◌+◌, ◌≤◌}
use mathlib.Core.Path.{◌≡◌, refl, sym, ap, ◌∙◌, subst}
use mathlib.Core.Bool.{true}
use Rattle.std.specs.Prelude.{None, Some}
use mathlib.Core.List.{List, [], ◌∷◌}
use native.Mathlib.Numerals.{add-one}
use native.Mathlib.Omega.{arith}
use lib.ListN.{length}
use Rattle.time.specs.Reply.{Reply, Carried, answer, refusal}
use Rattle.time.proofs.Replies.{refusal_answer}
use Rattle.buffer.specs.Row.{FloatsFit}
use Rattle.registry.specs.Tree.{Tree, Limits, Addition, holds_no_frame, add}
use Rattle.registry.specs.Store.{Store, limits_of, tree_of, stored}
use Rattle.registry.specs.Sound.{SoundStore}
use Rattle.registry.specs.Answers.{Value, done}
use Rattle.registry.specs.Calls.{Outcome, written}
use Rattle.registry.proofs.Held.{Holds, holds_added, stored_holds, sizes_in_range, none_held, none_stored}
use Rattle.map_file.specs.Form.{Name, Record}
use Rattle.map_loading.specs.Loading.{Loading, additions, unless_refused, add_all}
use Rattle.map_loading.specs.Numbering.{names_after, addition_after}
use Rattle.map_loading.proofs.MapAdditions.{additions_after, additions_are}
use Rattle.map_loading.proofs.LoadedTree.{LoadedSoFar, names_few, loaded_more, loaded_first}

-- k of all the records are added to the store as found, and these are left
pub record Adding (found : Store) (all : List Record) (s : Store) (names : List Name) (left : List Record) (k : ℕ) : Type 0 where
  pub limits : Limits
  pub tree : Tree
  pub empty : found ≡ stored limits []
  pub held : Holds limits s tree
  pub loaded : LoadedSoFar limits tree names
  pub number : k + length left ≡ length all
  pub rest : add_all found 0 found (additions all) ≡ add_all found k s (additions_after names left)

-- the start
pub adding_first : (found : Store) (all : List Record) → FloatsFit found.poses → SoundStore found → holds_no_frame (tree_of found) ≡ true
    → (names : List Name) → names ≡ [] → (left : List Record) → left ≡ all → (k : ℕ) → k ≡ 0 → Adding found all found names left k
adding_first found all fit ok empty names no_name left all_left k none_added = record {
  limits = limits_of found;
  tree = [];
  empty = none_stored found ok empty fit;
  held = none_held found ok empty;
  loaded = subst (LoadedSoFar (limits_of found) []) (sym no_name) (loaded_first (limits_of found) (sizes_in_range found ok));
  number = omega (arith, ap length all_left, none_added);
  rest = ap (add_all found 0 found) (additions_are all) ∙ (λ i. add_all found (sym none_added i) found (additions_after (sym no_name i) (sym all_left i)));
}

module _ {found : Store} {all : List Record} {s : Store} {names : List Name} {left : List Record} {k : ℕ} (a : Adding found all s names left k) where
  -- there is room for two more names
  pub adding_room : length names + 2 ≤ 514
  adding_room = omega (arith, names_few a.loaded)

  -- none is left
  pub adding_ends : left ≡ [] → add_all found 0 found (additions all) ≡ record { record? = None; reply = answer done; store = s }
  adding_ends e = a.rest ∙ ap (λ (l : List Record). add_all found k s (additions_after names l)) e

  -- one more record
  module _ (r : Record) (more : List Record) (e : left ≡ r ∷ more) (o : Outcome)
      (w : o ≡ written s (limits_of s) (add (limits_of s) (tree_of s) (addition_after names r))) where
    abbrev new : Addition
    new = addition_after names r

    -- the load that the rest is, once its addition has this outcome
    abbrev after : Outcome → Loading
    after o = unless_refused found k o.reply (add_all found (suc k) o.store (additions_after (names_after names r) more))

    outcome_is : o ≡ written s a.limits (add a.limits a.tree new)
    outcome_is = w ∙ (λ i. written s (a.held.limits i) (add (a.held.limits i) (a.held.tree i) new))

    load_after : add_all found 0 found (additions all) ≡ after o
    load_after = a.rest ∙ ap (λ (l : List Record). add_all found k s (additions_after names l)) e ∙ ap after (holds_added a.limits s a.tree a.held new ∙ sym outcome_is)

    -- refused, it leaves the store, which without a row is as found, and the load is its refusal
    pub adding_refused : (n : ℕ) (c : Carried) → o.reply ≡ refusal n c
        → (stored (limits_of o.store) [] ≡ found) × (add_all found 0 found (additions all) ≡ record { record? = Some k; reply = refusal n c; store = found })
    adding_refused n c is = (by (add a.limits a.tree new) outcome_is, load_after ∙ rw is)
      where
        by : (q : Reply Tree) → o ≡ written s a.limits q → stored (limits_of o.store) [] ≡ found
        by (answer u) q = absurd (refusal_answer (sym is ∙ ap (λ (x : Outcome). x.reply) q))
        by (refusal m d) q = ap (λ (x : Outcome). stored (limits_of x.store) []) q ∙ ap (λ (L : Limits). stored L []) a.held.limits ∙ sym a.empty

    -- answered, the rest is left
    pub adding_next : (next : List Name) → next ≡ names_after names r → (n : ℕ) → n ≡ k + 1 → o.reply ≡ answer done → Adding found all o.store next more n
    adding_next next names_are n counted is = by (add a.limits a.tree new) refl
      where
        by : (q : Reply Tree) → add a.limits a.tree new ≡ q → Adding found all o.store next more n
        by (answer u) q =
            let store : o.store ≡ stored a.limits u = ap (λ (x : Outcome). x.store) (outcome_is ∙ ap (written s a.limits) q) in
            let loaded = loaded_more a.limits a.tree names a.loaded r u q in
            record {
              limits = a.limits;
              tree = u;
              empty = a.empty;
              held = subst (λ (x : Store). Holds a.limits x u) (sym store) (stored_holds a.limits u loaded.range loaded.rules);
              loaded = subst (LoadedSoFar a.limits u) (sym names_are) loaded;
              number = omega (arith, a.number, ap length e, counted);
              rest = load_after ∙ ap (λ (x : Reply Value). unless_refused found k x (add_all found (suc k) o.store (additions_after (names_after names r) more))) is
                  ∙ (λ i. add_all found (sym (counted ∙ add-one k) i) o.store (additions_after (sym names_are i) more));
            }
        by (refusal m c) q = absurd (refusal_answer (sym (ap (λ (x : Outcome). x.reply) (outcome_is ∙ ap (written s a.limits) q)) ∙ is))
