-- An option is none or some value, and not both.
use Rattle.std.proofs.Common.{None, Some, ◌≡◌}

pub Some-injective : {A : Type 0} (a b : A) → Some a ≡ Some b → a ≡ b
Some-injective a b e = cc e

pub None-ne-Some : {A : Type 0} (a : A) → None ≡ Some a → ⊥
None-ne-Some a e = cc e

pub Some-ne-None : {A : Type 0} (a : A) → Some a ≡ None → ⊥
Some-ne-None a e = cc e
