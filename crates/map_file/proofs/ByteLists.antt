-- Lists of bytes: their parts are lists of bytes, and a lent slice of bytes is one.
use Prim.Native.Nat.{ℕ, ◌<◌}
use mathlib.Core.Path.{sym, ◌∙◌}
use mathlib.Core.List.{List, ◌∷◌, ◌++◌}
use borrow.Author.Tests.{ltb-true, lt-ltb}
use lib.Dec.{ltb}
use lib.ListN.{get_or, take, drop, take-append-drop}
use mir.Syntax.{w8}
use mir.Val.{Fits}
use Rattle.buffer.proofs.Cases.{and_left, and_right}
use Rattle.buffer.proofs.Alls.{all_append, all_at}
use Rattle.buffer.specs.Map.{all}
use Rattle.map_file.specs.Laws.{Bytes}

pub bytes_head : (b : ℕ) (bytes : List ℕ) → Bytes (b ∷ bytes) → b < 256
bytes_head b bytes h = ltb-true b 256 (and_left (ltb b 256) _ h)

pub bytes_tail : (b : ℕ) (bytes : List ℕ) → Bytes (b ∷ bytes) → Bytes bytes
bytes_tail b bytes h = and_right (ltb b 256) _ h

module _ (front rest : List ℕ) (h : Bytes (front ++ rest)) where
  pub bytes_front : Bytes front
  bytes_front = and_left _ _ (sym (all_append (λ b. ltb b 256) front rest) ∙ h)

  pub bytes_rest : Bytes rest
  bytes_rest = and_right (all (λ b. ltb b 256) front) _ (sym (all_append (λ b. ltb b 256) front rest) ∙ h)

pub bytes_take : (k : ℕ) (bytes : List ℕ) → Bytes bytes → Bytes (take k bytes)
bytes_take k bytes h = bytes_front (take k bytes) (drop k bytes) (rw (take-append-drop k bytes) h)

-- what is known of a lent slice of bytes
pub bytes_known : (bytes : List ℕ) → ((i : ℕ) → Fits w8 (get_or bytes i 0)) → Bytes bytes
bytes_known bytes h = (all_at (λ b. ltb b 256) bytes 0).1 (λ i l. lt-ltb (get_or bytes i 0) 256 (h i).fits)
