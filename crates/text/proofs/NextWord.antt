-- The word at a place of a line, and what is read from it. Assumes nothing.
use Rattle.std.proofs.Common.{◌≡◌, refl, sym, ap, ◌∙◌, cond, ℕ, ◌+◌, List, [], ◌∷◌, length, drop, arith}
use Rattle.std.specs.Prelude.{Option, None, Some}
use borrow.Author.Tests.{ne_eqb}
use lib.Dec.{eqb}
use Rattle.text.specs.Decimal.{before}
use Rattle.text.specs.Reading.{up_to_space, word_at, going_on, not_empty, read_at, any_word}

-- the word ends before the first space (32)
up_is_before : (l : List ℕ) → before 32 l ≡ up_to_space l
up_is_before [] = refl
up_is_before (c ∷ l) = ap (λ (w : List ℕ). cond (eqb c 32) [] (c ∷ w)) (up_is_before l)

-- what stands before the first space, as the word that is read
abbrev pub some_word : List ℕ → ℕ → Option (List ℕ × ℕ)
some_word word at = cond (eqb (length word) 0) None (Some (word, at + length word + 1))

pub read_word_lem : (line : List ℕ) (at : ℕ) → read_at any_word line at ≡ some_word (before 32 (drop at line)) at
unfolding read_at
read_word_lem line at = go (word_at line at) ∙ ap (λ (w : List ℕ). some_word w at) (sym (up_is_before (drop at line)))
  where
    go : (w : List ℕ) → going_on (not_empty any_word w) (at + length w + 1) ≡ some_word w at
    go [] = refl
    go (c ∷ w) = simp (ne_eqb (length (c ∷ w)) 0 (λ e. omega arith))

-- a word that was read, or none, read in a form
abbrev pub in_form : {A : Type 0} → (List ℕ → Option A) → Option (List ℕ × ℕ) → Option (A × ℕ)
in_form form None = None
in_form form (Some (word, next)) = going_on (form word) next

pub read_in_form : {A : Type 0} (form : List ℕ → Option A) (line : List ℕ) (at : ℕ) → read_at form line at ≡ in_form form (read_at any_word line at)
unfolding read_at
read_in_form form line at = go (word_at line at)
  where
    go : (w : List ℕ) → going_on (not_empty form w) (at + length w + 1) ≡ in_form form (going_on (not_empty any_word w) (at + length w + 1))
    go [] = refl
    go (c ∷ w) = refl
