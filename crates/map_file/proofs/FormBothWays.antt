-- A file has some records exactly when it is their bytes and they are within the limits of the form. Assumes nothing.
use Prim.Native.Nat.{ℕ, ◌^◌}
use mathlib.Core.Path.{◌≡◌, refl, sym, ap, ◌∙◌, subst}
use mathlib.Core.Bool.{true, ◌&&◌}
use Rattle.std.specs.Prelude.{Option, Some}
use mathlib.Core.List.{List, [], ◌∷◌, ◌++◌, append_assoc, append-nil}
use Rattle.std.proofs.lemmas.Option.{cond_some}
use native.Mathlib.Omega.{arith}
use borrow.Author.Tests.{lt-ltb, ltb-true, eq-eqb, eqb-true}
use lib.Dec.{eqb, ltb}
use lib.ListN.{length, take, drop, take-append-drop}
use lib.Seq.{take-append_seam, drop-append_seam}
use Rattle.text.specs.Reading.{same}
use Rattle.buffer.specs.Map.{all}
use Rattle.buffer.specs.Row.{concat_map}
use Rattle.buffer.proofs.Cases.{and_both, and_left, and_right}
use Rattle.map_file.specs.Form.{Record, ◌and_then◌, times, number_bytes, number_from, fixed_from, whole, record_bytes, record_fits, record_from, mark_and_version, file_bytes, FileFits, records}
use Rattle.map_file.specs.Laws.{Bytes, FormBothWays}
use Rattle.map_file.proofs.BookSame.{same_is, same_self}
use Rattle.map_file.proofs.Steps.{steps, then_some}
use Rattle.map_file.proofs.BothWays.{BothWays, left_bytes, number_ways, times_ways}
use Rattle.map_file.proofs.RecordWays.{record_ways}

-- ---- these very bytes

fixed_ways : (expected : List ℕ) → BothWays (fixed_from expected) (λ bytes. bytes) (λ bytes. same bytes expected)
fixed_ways expected = record { forth = fixed_forth; back = fixed_back }
  where
    fixed_forth : (bytes found rest : List ℕ) → Bytes bytes → fixed_from expected bytes ≡ Some (found, rest) → (bytes ≡ found ++ rest) × (same found expected ≡ true)
    fixed_forth bytes found rest h e =
        let r = cond_some (same (take (length expected) bytes) expected) _ _ e in
        let here : expected ≡ found = ap (λ x. x.0) r.1 in
        let front : take (length expected) bytes ≡ found = same_is (take (length expected) bytes) expected r.0 ∙ here in
        let behind : drop (length expected) bytes ≡ rest = ap (λ x. x.1) r.1 in
        (sym (take-append-drop (length expected) bytes) ∙ (λ i. front i ++ behind i), subst (λ (l : List ℕ). same l expected ≡ true) here (same_self expected))

    fixed_back : (found rest : List ℕ) → same found expected ≡ true → fixed_from expected (found ++ rest) ≡ Some (found, rest)
    fixed_back found rest f =
        let e : found ≡ expected = same_is found expected f in
        rw (e, take-append_seam expected rest, drop-append_seam expected rest, same_self expected)

-- ---- nothing left over

whole_read : {A : Type 0} (o : Option (A × List ℕ)) (a : A) → whole o ≡ Some a → o ≡ Some (a, [])
whole_read o a e =
    let s = steps o _ a e in
    let r = cond_some (eqb (length s.rest) 0) s.first a s.more in
    s.read ∙ (λ i. Some (r.1 i, empty s.rest (eqb-true (length s.rest) 0 r.0) i))
  where
    empty : (l : List ℕ) → length l ≡ 0 → l ≡ []
    empty [] e = refl
    empty (x ∷ l) e = absurd (omega arith)

-- ---- the count and the records

records_ways : (count : ℕ) → BothWays (times count record_from) (concat_map record_bytes) (λ rs. eqb (length rs) count && all record_fits rs)
records_ways = times_ways record_from record_bytes record_fits record_ways

abbrev counted_from : List ℕ → Option (List Record × List ℕ)
counted_from bytes = number_from 2 bytes and_then λ count third. times count record_from third

abbrev counted_bytes : List Record → List ℕ
counted_bytes rs = number_bytes 2 (length rs) ++ concat_map record_bytes rs

counted_ways : BothWays counted_from counted_bytes (λ rs. ltb (length rs) (2 ^ 16) && all record_fits rs)
counted_ways = record { forth = counted_forth; back = counted_back }
  where
    counted_forth : (bytes : List ℕ) (rs : List Record) (rest : List ℕ) → Bytes bytes → counted_from bytes ≡ Some (rs, rest) → (bytes ≡ counted_bytes rs ++ rest) × ((ltb (length rs) (2 ^ 16) && all record_fits rs) ≡ true)
    counted_forth bytes rs rest h e =
        let n = steps (number_from 2 bytes) _ (rs, rest) e in
        let wn = (number_ways 2).forth bytes n.first n.rest h n.read in
        let wr = (records_ways n.first).forth n.rest rs rest (left_bytes bytes (number_bytes 2 n.first) n.rest h wn.0) n.more in
        let count : n.first ≡ length rs = sym (eqb-true (length rs) n.first (and_left _ _ wr.1)) in (
          wn.0 ∙ (λ i. number_bytes 2 (count i) ++ wr.0 i) ∙ sym (append_assoc (number_bytes 2 (length rs)) (concat_map record_bytes rs) rest),
          and_both _ _ (subst (λ (k : ℕ). ltb k (2 ^ 16) ≡ true) count wn.1) (and_right (eqb (length rs) n.first) _ wr.1),
        )

    counted_back : (rs : List Record) (rest : List ℕ) → (ltb (length rs) (2 ^ 16) && all record_fits rs) ≡ true → counted_from (counted_bytes rs ++ rest) ≡ Some (rs, rest)
    counted_back rs rest f =
        let body = concat_map record_bytes rs ++ rest in
        ap counted_from (append_assoc (number_bytes 2 (length rs)) (concat_map record_bytes rs) rest)
        ∙ then_some (number_from 2 (number_bytes 2 (length rs) ++ body)) (λ count third. times count record_from third) (length rs) body (rs, rest)
        ((number_ways 2).back (length rs) body (and_left _ _ f))
        ((records_ways (length rs)).back rs rest (and_both _ _ (eq-eqb (length rs) (length rs) refl) (and_right (ltb (length rs) (2 ^ 16)) _ f)))

-- ---- a file

forth : (bytes : List ℕ) (rs : List Record) → Bytes bytes → records bytes ≡ Some rs → (bytes ≡ file_bytes rs) × FileFits rs
unfolding records file_bytes
forth bytes rs h e =
    let m = steps (fixed_from mark_and_version bytes) (λ mark second. counted_from second) (rs, []) (whole_read _ rs e) in
    let wm = (fixed_ways mark_and_version).forth bytes m.first m.rest h m.read in
    let wr = counted_ways.forth m.rest rs [] (left_bytes bytes m.first m.rest h wm.0) m.more in
    let mark : m.first ≡ mark_and_version = same_is m.first mark_and_version wm.1 in
    let counted : m.rest ≡ counted_bytes rs = wr.0 ∙ append-nil (counted_bytes rs) in (
      wm.0 ∙ (λ i. mark i ++ counted i),
      record { count = ltb-true (length rs) (2 ^ 16) (and_left _ _ wr.1); each = and_right (ltb (length rs) (2 ^ 16)) _ wr.1 },
    )

back : (bytes : List ℕ) (rs : List Record) → bytes ≡ file_bytes rs → FileFits rs → records bytes ≡ Some rs
unfolding records file_bytes
back bytes rs e f =
    let counted : counted_from (counted_bytes rs) ≡ Some (rs, []) =
    ap counted_from (sym (append-nil (counted_bytes rs))) ∙ counted_ways.back rs [] (and_both _ _ (lt-ltb (length rs) (2 ^ 16) f.count) f.each) in
    ap records e
    ∙ ap whole (then_some (fixed_from mark_and_version (mark_and_version ++ counted_bytes rs)) (λ mark second. counted_from second) mark_and_version (counted_bytes rs) (rs, [])
    ((fixed_ways mark_and_version).back mark_and_version (counted_bytes rs) (same_self mark_and_version)) counted)

pub form_both_ways : FormBothWays
form_both_ways bytes rs h = (forth bytes rs h, λ w. back bytes rs w.0 w.1)
