-- A file is read part by part: its mark and version, its count, its records.
use Prim.Native.Nat.{ℕ, ◌+◌, ◌*◌, ◌≤◌, ◌<◌}
use mathlib.Core.Path.{◌≡◌, sym, ap, ◌∙◌}
use mathlib.Core.Bool.{Bool, true, false}
use mathlib.Core.List.{List, [], ◌∷◌}
use native.Mathlib.Omega.{arith}
use borrow.Author.Tests.{lt-leb, le-leb}
use lib.Dec.{eqb}
use lib.ListN.{length, take, drop}
use lib.Seq.{length-take-le}
use Rattle.std.specs.Prelude.{None, Some, slice_index}
use Rattle.std.specs.Cmp.Lexicographic.{pointwise}
use Rattle.map_file.specs.Form.{Record, times, number, record_from, mark_and_version, records}
use Rattle.map_file.proofs.BookSame.{same_eq}

-- the count's two bytes
two_bytes : (l : List ℕ) → length l ≡ 2 → slice_index l 0 + slice_index l 1 * 256 ≡ number l
two_bytes [] e = absurd (omega arith)
two_bytes (a ∷ []) e = absurd (omega arith)
two_bytes (a ∷ b ∷ []) e = omega arith
two_bytes (a ∷ b ∷ c ∷ l) e = absurd (omega arith)

module _ (bytes : List ℕ) where
  abbrev marked : Bool
  marked = pointwise eqb (take 5 bytes) mark_and_version

  pub unmarked : marked ≡ false → None ≡ records bytes
  unfolding records
  unmarked e = rw (same_eq (take 5 bytes) mark_and_version, e)

  module _ (body : List ℕ) (m : marked ≡ true) (b : body ≡ drop 5 bytes) where
    pub uncounted : length body < 2 → None ≡ records bytes
    unfolding records
    uncounted l = rw (same_eq (take 5 bytes) mark_and_version, m, sym b, lt-leb 2 (length body) l)

    module _ (head tail : List ℕ) (count : ℕ) (l : 2 ≤ length body) (h : head ≡ take 2 body) (t : tail ≡ drop 2 body) (is : count ≡ slice_index head 0 + slice_index head 1 * 256) where
      counted : number (take 2 body) ≡ count
      counted = sym (is ∙ two_bytes head (ap length h ∙ length-take-le 2 body l) ∙ ap number h)

      pub unread : None ≡ times count record_from tail → None ≡ records bytes
      unfolding records
      unread e = rw (same_eq (take 5 bytes) mark_and_version, m, sym b, le-leb 2 (length body) l, counted, sym t, sym e)

      module _ (rs : List Record) (rest : List ℕ) (e : Some (rs, rest) ≡ times count record_from tail) where
        pub left_over : eqb (length rest) 0 ≡ false → None ≡ records bytes
        unfolding records
        left_over n = rw (same_eq (take 5 bytes) mark_and_version, m, sym b, le-leb 2 (length body) l, counted, sym t, sym e, n)

        pub all_read : eqb (length rest) 0 ≡ true → Some rs ≡ records bytes
        unfolding records
        all_read n = rw (same_eq (take 5 bytes) mark_and_version, m, sym b, le-leb 2 (length body) l, counted, sym t, sym e, n)
