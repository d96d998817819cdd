-- Refusals 1 and 2, as the contracts of the private functions cite them. No public contract rests on these.
use Rattle.std.specs.Prelude.{ℕ, ◌^◌, Bool, not, ◌&&◌, ◌||◌, List, eqb, ltb, leb}
use Rattle.buffer.specs.Map.{rising}
use Rattle.registry.specs.Store.{Store, rows_in, used_in, flag_in, age_word_in, child_in, parent_in, kind_in, tree_of}
use Rattle.registry.specs.Sound.{frames_fit, parents_differ, no_circle, named_values}
use Rattle.registry.specs.layout.Rows.{head_of}

-- row r: frames fit 32 bits, the parent differs from the child, the kind has a named value
abbrev pub row_fits : List ℕ → ℕ → Bool
row_fits h r =
    ltb (child_in (head_of h) r) (2 ^ 32) && ltb (parent_in (head_of h) r) (2 ^ 32)
    && not (eqb (parent_in (head_of h) r) (child_in (head_of h) r))
    && leb (kind_in (head_of h) r) 1

-- the flag has a named value, and age is 0 without the flag
abbrev pub age_named : List ℕ → Bool
age_named h = leb (flag_in (head_of h)) 1 && (eqb (flag_in (head_of h)) 1 || eqb (age_word_in (head_of h)) 0)

-- the clauses of `sound` that speak of the head, but for its unused words
abbrev pub head_sound : Store → Bool
head_sound s =
    leb (used_in s) (rows_in s)
    && rising (tree_of s)
    && frames_fit (tree_of s)
    && parents_differ (tree_of s)
    && no_circle (tree_of s)
    && named_values s
