-- The rows of a store that is sized and sound: their parts, and what holds of them.
use Prim.Native.Nat.{ℕ, ◌<◌}
use mathlib.Core.Path.{◌≡◌, subst}
use mathlib.Core.Bool.{true}
use Rattle.buffer.specs.Row.{instants_sound}
use Rattle.buffer.proofs.SoundRows.{SoundSamples, RowSound, row_sound_is, of_instants}
use Rattle.registry.specs.Store.{Store, rows_in, capacity_in, used_in, age_in, count_in, row_instants, row_poses, row_at}
use Rattle.registry.specs.Sound.{row_rules}
use Rattle.registry.specs.layout.Rows.{RowPart}
use Rattle.registry.proofs.layout.SizeLaws.{Sizes}
use Rattle.registry.proofs.layout.SizeTests.{used_parts, used_part}
use Rattle.registry.proofs.layout.RowParts.{instants_long}
use Rattle.registry.proofs.soundness.Rules.{Rules}
use Rattle.registry.proofs.soundness.Everys.{every_is}

module _ (s : Store) (z : Sizes (rows_in s) (capacity_in s) s) (k : Rules s) where
  pub row_part : (r : ℕ) → r < used_in s → RowPart r s
  row_part r l = used_part s r (used_parts s z k.few) l

  pub row_sound_lem : (r : ℕ) → r < used_in s → RowSound (age_in s) (row_at s r).1.kind (count_in s r) (row_instants s r) (row_poses s r)
  row_sound_lem r l =
      (row_sound_is (age_in s) (row_at s r).1.kind (count_in s r) (row_instants s r) (row_poses s r)).0
      ((every_is (row_rules s) (used_in s)).0 k.rows r l)

  pub row_instants_lem : (r : ℕ) → r < used_in s → instants_sound (age_in s) (capacity_in s) (row_at s r).1.kind (row_at s r).1.samples ≡ true
  row_instants_lem r l =
      of_instants (age_in s) (capacity_in s) (row_at s r).1.kind (row_at s r).1.samples
      (subst (λ (n : ℕ). SoundSamples (age_in s) n (row_at s r).1.kind (row_at s r).1.samples) (instants_long s r (row_part r l)) (row_sound_lem r l).samples)
