-- A record is read part by part.
use Prim.Native.Nat.{ℕ, ◌≤◌, ◌<◌}
use mathlib.Core.Path.{◌≡◌, sym}
use Rattle.std.specs.Prelude.{None, Some}
use mathlib.Core.List.{List}
use lib.ListN.{length, take, drop}
use Rattle.map_file.specs.Form.{Name, name_from, record_from}
use Rattle.map_file.specs.Reads.{words}
use Rattle.map_file.proofs.Words.{words_read, words_cut, words_take}

module _ (bytes : List ℕ) where
  pub no_child : None ≡ name_from bytes → None ≡ record_from bytes
  unfolding record_from
  no_child e = rw (sym e)

  module _ (child : Name) (second : List ℕ) (c : Some (child, second) ≡ name_from bytes) where
    pub no_parent : None ≡ name_from second → None ≡ record_from bytes
    unfolding record_from
    no_parent e = rw (sym c, sym e)

    module _ (parent : Name) (third : List ℕ) (p : Some (parent, third) ≡ name_from second) where
      pub no_pose : length third < 56 → None ≡ record_from bytes
      unfolding record_from
      no_pose l = rw (sym c, sym p, words_cut 7 third l)

      pub all_parts : 56 ≤ length third → Some (record { child = child; parent = parent; pose = words 7 (take 56 third) }, drop 56 third) ≡ record_from bytes
      unfolding record_from
      all_parts l = rw (sym c, sym p, words_read 7 third l, words_take 7 third)
