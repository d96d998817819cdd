-- Several words of 64 bits, read one after the other. Assumes nothing.
use Prim.Native.Nat.{ℕ, zero, suc, ◌+◌, ◌*◌, ◌≤◌, ◌<◌}
use mathlib.Core.Path.{◌≡◌, refl, ap, ◌∙◌}
use Rattle.std.specs.Prelude.{None, Some}
use mathlib.Core.List.{List, ◌∷◌}
use native.Mathlib.Omega.{arith}
use borrow.Author.Tests.{le-leb, leb-true}
use lib.Dec.{leb}
use lib.ListN.{length, take, drop, length-drop}
use lib.Seq.{drop-drop}
use Rattle.std.proofs.lemmas.List.{take-take, drop-take}
use Rattle.buffer.proofs.Cases.{both}
use Rattle.map_file.specs.Form.{times, number, number_from}
use Rattle.map_file.specs.Reads.{words}

pub words_read : (n : ℕ) (bytes : List ℕ) → 8 * n ≤ length bytes → times n (number_from 8) bytes ≡ Some (words n bytes, drop (8 * n) bytes)
words_read zero bytes h = refl
words_read (suc n) bytes h =
    rw (le-leb 8 (length bytes) (omega arith), words_read n (drop 8 bytes) (omega (arith, length-drop 8 bytes)))
    (ap (λ (l : List ℕ). Some (number (take 8 bytes) ∷ words n (drop 8 bytes), l)) (drop-drop (8 * n) 8 bytes ∙ ap (λ (k : ℕ). drop k bytes) more))
  where
    more : 8 + 8 * n ≡ 8 * suc n
    more = omega arith

pub words_cut : (n : ℕ) (bytes : List ℕ) → length bytes < 8 * n → times n (number_from 8) bytes ≡ None
words_cut zero bytes h = absurd (omega arith)
words_cut (suc n) bytes h = both (leb 8 (length bytes))
    (λ e. rw (e, words_cut n (drop 8 bytes) (omega (arith, length-drop 8 bytes, leb-true 8 (length bytes) e))))
    (λ e. rw e)

pub words_take : (n : ℕ) (bytes : List ℕ) → words n (take (8 * n) bytes) ≡ words n bytes
words_take zero bytes = refl
words_take (suc n) bytes =
    let e : 8 * suc n ≡ 8 + 8 * n = omega arith in
    rw (take-take 8 (8 * suc n) bytes (omega arith), e, drop-take 8 (8 * n) bytes, words_take n (drop 8 bytes))
