-- The calls on three lent slices: what each replies, and every word afterwards.
use Rattle.std.specs.Prelude.{◌≡◌, ℕ, not, List, [], Float}
use Rattle.time.specs.Reply.{Reply, answer, refusal, nothing, refuse, reply_by, ◌then◌}
use Rattle.registry.specs.Tree.{Tree, Limits, Addition, add, wipe}
use Rattle.registry.specs.Store.{Store, stored, tree_of, limits_of, sizes_fit, sized}
use Rattle.registry.specs.Sound.{sound}
use Rattle.registry.specs.Path.{lookup, common_time}
use Rattle.std.specs.Prelude.{Result}
use Rattle.registry.specs.Answers.{Value, done, refusal_of, replied, told_done}
use Rattle.registry.specs.declared.store.Store.{Store as Lent}
use Rattle.registry.specs.declared.store.StoreMut.{StoreMut}
use Rattle.registry.specs.declared.error.RegistryError.{RegistryError}

pub record Outcome : Type 0 where
  pub reply : Reply Value
  pub store : Store

abbrev pub outcome : Reply Value → List ℕ → List ℕ → List Float → Outcome
outcome r h i p = record { reply = r; store = record { head = h; instants = i; poses = p } }

abbrev pub store_of : List ℕ → List ℕ → List Float → Store
store_of h i p = record { head = h; instants = i; poses = p }

-- the words of a store that is lent, to read and to write
abbrev pub words : Lent → Store
words s = store_of s.head.now s.instants.now s.poses.now

abbrev pub words_mut : StoreMut → Store
words_mut s = store_of s.head.now s.instants.now s.poses.now

-- The slices that are lent are still the same three: a &mut in a struct could be replaced, so each function that writes says that none was.
pub record SameSlices (a b : StoreMut) : Type 0 where
  pub head : b.head.ghost_name ≡ a.head.ghost_name
  pub instants : b.instants.ghost_name ≡ a.instants.ghost_name
  pub poses : b.poses.ghost_name ≡ a.poses.ghost_name

-- what a call that writes replies, and the words that it leaves
abbrev pub outcome_of : Result (Unit {0}) RegistryError → StoreMut → Outcome
outcome_of r s = record { reply = replied told_done r; store = words_mut s }

-- done and the tree's words under the limits, or the refusal and every word as it was
abbrev pub written : Store → Limits → Reply Tree → Outcome
written s L (answer t) = record { reply = answer done; store = stored L t }
written s L (refusal k c) = record { reply = refusal k c; store = s }

-- opening: 1; else a store of the named sizes and age with no row used
unfoldable pub open_of : Store → Limits → Outcome
open_of s L = written s L (refuse (not (sizes_fit L.rows L.capacity s)) 1 nothing (answer []))

-- every call on a store that is lent begins with 1 and 2, and then is the call on its tree
unfoldable pub on_tree : {A : Type 0} → Store → (Limits → Tree → Reply A) → Reply A
on_tree s call = refuse (not (sized s)) 1 nothing (refuse (not (sound s)) 2 nothing (call (limits_of s) (tree_of s)))

-- what the tests of 1 and then of 2 find, as a reply
abbrev pub tested : {A : Type 0} → Result A RegistryError → Reply (Unit {0})
tested r = reply_by refusal_of r then λ a. answer tt

unfoldable pub add_of : Store → Addition → Outcome
add_of s a = written s (limits_of s) (on_tree s (λ L t. add L t a))

unfoldable pub wipe_of : Store → ℕ → ℕ → Outcome
wipe_of s f i = written s (limits_of s) (on_tree s (λ L t. wipe t f i))

unfoldable pub lookup_of : Store → ℕ → ℕ → ℕ → Reply Value
lookup_of s target source i = on_tree s (λ L t. lookup t target source i)

unfoldable pub common_time_of : Store → ℕ → ℕ → Reply Value
common_time_of s target source = on_tree s (λ L t. common_time t target source)
