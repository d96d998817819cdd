-- The tests of refusals 1 and 2: what each needs of those before it, and what they decide together.
use Prim.Native.Nat.{◌≤◌}
use mathlib.Core.Path.{◌≡◌, ap, ◌∙◌}
use mathlib.Core.Bool.{Bool, true, false, ◌&&◌}
use native.Mathlib.Omega.{arith}
use lib.ListN.{length}
use borrow.Author.Tests.{leb-true}
use Rattle.registry.specs.Store.{Store, head_length, rows_in, sized}
use Rattle.registry.specs.Sound.{rows_sound, unused_rows_zero, sound, SoundStore}
use Rattle.registry.specs.layout.Rows.{UsedParts}
use Rattle.registry.specs.soundness.Checks.{head_sound}
use Rattle.registry.proofs.layout.SizeLaws.{sized_is}
use Rattle.registry.proofs.layout.SizeTests.{used_parts}
use Rattle.registry.proofs.soundness.Everys.{and_parts}

module _ (s : Store) (z : sized s ≡ true) where
  pub head_asked : (rows_in s ≤ 256) × (head_length (rows_in s) ≤ length s.head)
  head_asked = let k = (sized_is s).0 z in let f = k.range.few_rows in let h = k.head in (f, omega arith)

  pub parts_used : head_sound s ≡ true → UsedParts s
  parts_used e =
      used_parts s ((sized_is s).0 z)
      (leb-true _ _ (and_parts _ _ (and_parts _ _ (and_parts _ _ (and_parts _ _ (and_parts _ _ e).0).0).0).0).0)

-- the rules are those of the head, of the used rows and of the unused rows
module _ (s : Store) where
  pub head_unsound : head_sound s ≡ false → sound s ≡ false
  unfolding sound
  head_unsound e = rw e

  pub rows_unsound : head_sound s ≡ true → rows_sound s ≡ false → sound s ≡ false
  unfolding sound
  rows_unsound e f = ap (λ b. b && rows_sound s && unused_rows_zero s) e ∙ ap (λ b. b && unused_rows_zero s) f

  pub all_rules : (b : Bool) → head_sound s ≡ true → rows_sound s ≡ true → unused_rows_zero s ≡ b → sound s ≡ b
  unfolding sound
  all_rules b e f g = ap (λ b. b && rows_sound s && unused_rows_zero s) e ∙ ap (λ b. b && unused_rows_zero s) f ∙ g

pub sound_parts : (s : Store) → SoundStore s → UsedParts s
unfolding sound
sound_parts s ok = parts_used s ok.sizes (and_parts _ _ (and_parts _ _ ok.rules).0).0
