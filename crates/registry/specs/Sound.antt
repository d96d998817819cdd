-- "Sound means": one clause for each part of document 01's sentence.
use Rattle.std.specs.Prelude.{ℕ, zero, suc, ◌^◌, ◌≡◌, Bool, true, false, not, ◌&&◌, ◌||◌, eqb, ltb, leb, length}
use Rattle.std.specs.Prelude.{Option, None, Some}
use Rattle.buffer.specs.Map.{all, get, rising}
use Rattle.buffer.specs.Row.{is_zero, row_sound}
use Rattle.registry.specs.Tree.{Edge, Tree, is_absent, above, member}
use Rattle.registry.specs.Store.{Store, rows_in, used_in, flag_in, age_word_in, age_in, kind_in, kind_of_word, count_in, row_instants, row_poses, unused_head, unused_instants, unused_poses, tree_of, sized}

-- every row number below n passes the test
abbrev pub every : ℕ → (ℕ → Bool) → Bool
every zero test = true
every (suc n) test = every n test && test n

-- "frames fit 32 bits"
abbrev pub frames_fit : Tree → Bool
frames_fit t = all (λ x. ltb x.0 (2 ^ 32) && ltb x.1.parent (2 ^ 32)) t

-- "parent differs from child"
abbrev pub parents_differ : Tree → Bool
parents_differ t = all (λ x. not (eqb x.1.parent x.0)) t

-- where n steps up from f lead
abbrev pub step_up : Option Edge → ℕ → (ℕ → ℕ) → ℕ
step_up None f next = f
step_up (Some e) f next = next e.parent

abbrev pub climb : ℕ → Tree → ℕ → ℕ
climb zero t f = f
climb (suc n) t f = step_up (get t f) f (λ p. climb n t p)

-- "no circle": from every child, as many steps as there are rows lead to a frame that is no child
unfoldable pub no_circle : Tree → Bool
no_circle t = all (λ x. is_absent (get t (climb (length t) t x.0))) t

-- "flag and kind have a named value, and age is 0 without the flag"
abbrev pub named_values : Store → Bool
named_values s =
    leb (flag_in s) 1
    && (eqb (flag_in s) 1 || eqb (age_word_in s) 0)
    && every (used_in s) (λ r. leb (kind_in s r) 1)

-- the rules of row r: its instants, its poses and what it does not use of its capacity
abbrev pub row_rules : Store → ℕ → Bool
row_rules s r = row_sound (age_in s) (kind_of_word (kind_in s r)) (count_in s r) (row_instants s r) (row_poses s r)

abbrev pub rows_sound : Store → Bool
rows_sound s = every (used_in s) (row_rules s)

-- "every unused word is 0, positive zero for floats": the unused rows
abbrev pub unused_rows_zero : Store → Bool
unused_rows_zero s =
    all (eqb 0) (unused_head s)
    && all (eqb 0) (unused_instants s)
    && all is_zero (unused_poses s)

unfoldable pub sound : Store → Bool
sound s =
    leb (used_in s) (rows_in s)
    && rising (tree_of s)
    && frames_fit (tree_of s)
    && parents_differ (tree_of s)
    && no_circle (tree_of s)
    && named_values s
    && rows_sound s
    && unused_rows_zero s

-- a store that has passed the tests of 1 and 2: its sizes fit and the rules hold
pub record SoundStore (s : Store) : Type 0 where
  pub sizes : sized s ≡ true
  pub rules : sound s ≡ true

-- ---- what no circle means, proved of `no_circle` in proofs/

-- no frame is above itself
abbrev pub NotAboveItself : Tree → Type 0
NotAboveItself t = (n f : ℕ) → member f (above n t f) ≡ false
