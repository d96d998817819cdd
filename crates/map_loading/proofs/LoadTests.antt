-- What a load into a sound store is, by the tests of 19 and 18.
use mathlib.Core.Path.{◌≡◌}
use mathlib.Core.Bool.{true, false}
use Rattle.std.specs.Prelude.{None, Some}
use mathlib.Core.List.{List}
use Prim.Native.Nat.{ℕ}
use Rattle.time.specs.Reply.{refusal, nothing}
use Rattle.registry.specs.Tree.{holds_no_frame}
use Rattle.registry.specs.Store.{Store, tree_of}
use Rattle.registry.specs.Sound.{SoundStore}
use Rattle.registry.specs.Calls.{on_tree}
use Rattle.map_file.specs.Form.{Record, records}
use Rattle.map_loading.specs.Loading.{additions, add_all, load_of}

module _ (s : Store) (bytes : List ℕ) (ok : SoundStore s) where
  -- 19
  pub load_in_use : holds_no_frame (tree_of s) ≡ false → load_of s bytes ≡ record { record? = None; reply = refusal 19 nothing; store = s }
  unfolding load_of on_tree
  load_in_use used = rw (ok.sizes, ok.rules, used)

  -- 18
  pub load_no_form : holds_no_frame (tree_of s) ≡ true → records bytes ≡ None → load_of s bytes ≡ record { record? = None; reply = refusal 18 nothing; store = s }
  unfolding load_of on_tree
  load_no_form empty form = rw (ok.sizes, ok.rules, empty, form)

  -- the records
  pub load_into_lem : (rs : List Record) → holds_no_frame (tree_of s) ≡ true → records bytes ≡ Some rs → load_of s bytes ≡ add_all s 0 s (additions rs)
  unfolding load_of on_tree
  load_into_lem rs empty form = rw (ok.sizes, ok.rules, empty, form)
