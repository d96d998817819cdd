-- A load is a refusal of the whole, which is no record's, or the additions of the file's records to a sound store that holds no frame.
use Prim.Native.Nat.{ℕ}
use mathlib.Core.Path.{◌≡◌, refl}
use mathlib.Core.Bool.{Bool, true, false, not}
use Rattle.std.specs.Prelude.{Option, None, Some}
use mathlib.Core.List.{List}
use Rattle.time.specs.Reply.{nothing, Reply, answer, refusal, refuse}
use Rattle.registry.specs.Tree.{Addition, holds_no_frame}
use Rattle.registry.specs.Store.{Store, tree_of, sized}
use Rattle.registry.specs.Sound.{sound, SoundStore}
use Rattle.registry.specs.Answers.{carries}
use Rattle.registry.specs.Calls.{on_tree}
use Rattle.map_file.specs.Form.{Record, records, formed}
use Rattle.map_loading.specs.Loading.{additions, add_all, load_of}

-- the tests before the records: 1, 2, 19 and 18
abbrev pub read_from : Store → List ℕ → Reply (List Addition)
read_from s bytes = on_tree s (λ L t. refuse (not (holds_no_frame t)) 19 nothing (formed (records bytes) additions))

-- all of them are passed
pub record Passed (s : Store) (bytes : List ℕ) (rs : List Record) : Type 0 where
  pub checked : SoundStore s
  pub empty : holds_no_frame (tree_of s) ≡ true
  pub form : records bytes ≡ Some rs

-- what a load is
pub data Load (s : Store) (bytes : List ℕ) : Type 0 where
  none_read : (k : ℕ) → carries k nothing ≡ true → read_from s bytes ≡ refusal k nothing → load_of s bytes ≡ record { record? = None; reply = refusal k nothing; store = s } → Load s bytes
  read : (rs : List Record) → Passed s bytes rs → read_from s bytes ≡ answer (additions rs) → load_of s bytes ≡ add_all s 0 s (additions rs) → Load s bytes

pub load_cases : (s : Store) (bytes : List ℕ) → Load s bytes
unfolding load_of on_tree
load_cases s bytes = by (sized s) refl (sound s) refl (holds_no_frame (tree_of s)) refl (records bytes) refl
  where
    by : (a : Bool) → sized s ≡ a → (b : Bool) → sound s ≡ b → (e : Bool) → holds_no_frame (tree_of s) ≡ e → (r : Option (List Record)) → records bytes ≡ r → Load s bytes
    by false p b q e h r f = none_read 1 refl (rw p) (rw p)
    by true p false q e h r f = none_read 2 refl (rw (p, q)) (rw (p, q))
    by true p true q false h r f = none_read 19 refl (rw (p, q, h)) (rw (p, q, h))
    by true p true q true h None f = none_read 18 refl (rw (p, q, h, f)) (rw (p, q, h, f))
    by true p true q true h (Some rs) f = read rs (record { checked = record { sizes = p; rules = q }; empty = h; form = f }) (rw (p, q, h, f)) (rw (p, q, h, f))
