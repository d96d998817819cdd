-- A form that reads exactly what is written, proved part by part: a number, a name, several of the same form. Assumes nothing.
use Prim.Native.Nat.{ℕ, zero, suc, ◌^◌, ◌≤◌, ◌<◌}
use mathlib.Core.Path.{◌≡◌, refl, sym, ap, ◌∙◌, subst}
use mathlib.Core.Bool.{Bool, true, ◌&&◌}
use Rattle.std.specs.Prelude.{Option, Some}
use Rattle.time.proofs.Options.{Some-injective}
use mathlib.Core.List.{List, [], ◌∷◌, ◌++◌, append_assoc}
use Rattle.std.proofs.lemmas.Option.{cond_some}
use native.Mathlib.Omega.{arith}
use borrow.Author.Tests.{le-leb, leb-true, lt-ltb, ltb-true, eq-eqb, eqb-true}
use lib.Dec.{leb, ltb, eqb}
use lib.ListN.{length, take, drop, length-append, take-append-drop}
use lib.Seq.{length-take-le, take_at, drop_at, take-append_seam, drop-append_seam}
use Rattle.buffer.specs.Map.{all}
use Rattle.buffer.specs.Row.{concat_map}
use Rattle.buffer.proofs.Cases.{none_some, and_both, and_left, and_right}
use Rattle.map_file.specs.Form.{times, number, number_bytes, number_from, Name, name_bytes, name_fits, name_from}
use Rattle.map_file.specs.Laws.{Bytes}
use Rattle.map_file.proofs.ByteLists.{bytes_take, bytes_rest}
use Rattle.map_file.proofs.Numbers.{length_bytes, number_below, number_back_lem, bytes_back}
use Rattle.map_file.proofs.Steps.{steps}

-- bytes have the form exactly where they begin with what is written of a value that fits
pub record BothWays {A : Type 0} (form : List ℕ → Option (A × List ℕ)) (written : A → List ℕ) (fits : A → Bool) : Type 0 where
  pub forth : (bytes : List ℕ) (a : A) (rest : List ℕ) → Bytes bytes → form bytes ≡ Some (a, rest) → (bytes ≡ written a ++ rest) × (fits a ≡ true)
  pub back : (a : A) (rest : List ℕ) → fits a ≡ true → form (written a ++ rest) ≡ Some (a, rest)

-- what is left are bytes
pub left_bytes : (bytes front rest : List ℕ) → Bytes bytes → bytes ≡ front ++ rest → Bytes rest
left_bytes bytes front rest h e = bytes_rest front rest (subst Bytes e h)

-- ---- a number of k bytes

pub number_ways : (k : ℕ) → BothWays (number_from k) (number_bytes k) (λ n. ltb n (256 ^ k))
number_ways k = record { forth = number_forth; back = number_back }
  where
    number_forth : (bytes : List ℕ) (n : ℕ) (rest : List ℕ) → Bytes bytes → number_from k bytes ≡ Some (n, rest) → (bytes ≡ number_bytes k n ++ rest) × (ltb n (256 ^ k) ≡ true)
    number_forth bytes n rest h e =
        let r = cond_some (leb k (length bytes)) _ _ e in
        let value : number (take k bytes) ≡ n = ap (λ x. x.0) r.1 in
        let behind : drop k bytes ≡ rest = ap (λ x. x.1) r.1 in
        let long : length (take k bytes) ≡ k = length-take-le k bytes (leb-true k (length bytes) r.0) in
        let front : take k bytes ≡ number_bytes k n = sym (bytes_back (take k bytes) (bytes_take k bytes h)) ∙ (λ i. number_bytes (long i) (value i)) in
        let below : number (take k bytes) < 256 ^ length (take k bytes) = number_below (take k bytes) (bytes_take k bytes h) in
        (sym (take-append-drop k bytes) ∙ (λ i. front i ++ behind i), lt-ltb n (256 ^ k) (subst (λ (m : ℕ). m < 256 ^ k) value (subst (λ (j : ℕ). number (take k bytes) < 256 ^ j) long below)))

    number_back : (n : ℕ) (rest : List ℕ) → ltb n (256 ^ k) ≡ true → number_from k (number_bytes k n ++ rest) ≡ Some (n, rest)
    number_back n rest f =
        let long = length_bytes k n in
        let room : k ≤ length (number_bytes k n ++ rest) = omega (arith, long, length-append (number_bytes k n) rest) in
        rw (le-leb k (length (number_bytes k n ++ rest)) room, take_at (number_bytes k n) rest k long, drop_at (number_bytes k n) rest k long, number_back_lem k n (ltb-true n (256 ^ k) f))

-- ---- a name

pub name_ways : BothWays name_from name_bytes name_fits
name_ways = record { forth = name_forth; back = name_back }
  where
    name_forth : (bytes : List ℕ) (name : Name) (rest : List ℕ) → Bytes bytes → name_from bytes ≡ Some (name, rest) → (bytes ≡ name_bytes name ++ rest) × (name_fits name ≡ true)
    name_forth [] name rest h e = absurd (none_some e)
    name_forth (n ∷ bytes) name rest h e =
        let r = cond_some (leb 1 n && leb n 32 && leb n (length bytes)) _ _ e in
        let here : take n bytes ≡ name = ap (λ x. x.0) r.1 in
        let behind : drop n bytes ≡ rest = ap (λ x. x.1) r.1 in
        let long : n ≡ length name = sym (length-take-le n bytes (leb-true n (length bytes) (and_right (leb 1 n && leb n 32) _ r.0))) ∙ ap length here in
        ((λ i. long i ∷ sym (take-append-drop n bytes) i) ∙ (λ i. length name ∷ (here i ++ behind i)), subst (λ (m : ℕ). (leb 1 m && leb m 32) ≡ true) long (and_left _ _ r.0))

    name_back : (name : Name) (rest : List ℕ) → name_fits name ≡ true → name_from (name_bytes name ++ rest) ≡ Some (name, rest)
    name_back name rest f =
        rw (f, le-leb (length name) (length (name ++ rest)) (omega (arith, length-append name rest)), take-append_seam name rest, drop-append_seam name rest)

-- ---- several of one form

module _ {A : Type 0} (form : List ℕ → Option (A × List ℕ)) (written : A → List ℕ) (fits : A → Bool) (one : BothWays form written fits) where
  -- as many, and each fits
  abbrev all_fit : ℕ → List A → Bool
  all_fit n xs = eqb (length xs) n && all fits xs

  fit_more : (n : ℕ) (x : A) (xs : List A) → fits x ≡ true → all_fit n xs ≡ true → all_fit (suc n) (x ∷ xs) ≡ true
  fit_more n x xs f g =
      and_both _ _ (eq-eqb (suc (length xs)) (suc n) (ap suc (eqb-true (length xs) n (and_left _ _ g)))) (and_both _ _ f (and_right (eqb (length xs) n) _ g))

  times_forth : (n : ℕ) (bytes : List ℕ) (xs : List A) (rest : List ℕ) → Bytes bytes → times n form bytes ≡ Some (xs, rest) → (bytes ≡ concat_map written xs ++ rest) × (all_fit n xs ≡ true)
  times_forth zero bytes xs rest h e = subst (λ (x : List A × List ℕ). (bytes ≡ concat_map written x.0 ++ x.1) × (all_fit 0 x.0 ≡ true)) (Some-injective _ _ e) (refl, refl)
  times_forth (suc n) bytes xs rest h e =
      let s = steps (form bytes) _ (xs, rest) e in
      let t = steps (times n form s.rest) _ (xs, rest) s.more in
      let w = one.forth bytes s.first s.rest h s.read in
      let v = times_forth n s.rest t.first t.rest (left_bytes bytes (written s.first) s.rest h w.0) t.read in
      subst (λ (x : List A × List ℕ). (bytes ≡ concat_map written x.0 ++ x.1) × (all_fit (suc n) x.0 ≡ true)) (Some-injective _ _ t.more)
      (w.0 ∙ ap (λ (l : List ℕ). written s.first ++ l) v.0 ∙ sym (append_assoc (written s.first) (concat_map written t.first) t.rest), fit_more n s.first t.first w.1 v.1)

  times_back : (n : ℕ) (xs : List A) (rest : List ℕ) → all_fit n xs ≡ true → times n form (concat_map written xs ++ rest) ≡ Some (xs, rest)
  times_back zero [] rest f = refl
  times_back zero (x ∷ xs) rest f = absurd (omega (arith, eqb-true (suc (length xs)) 0 (and_left _ _ f)))
  times_back (suc n) [] rest f = absurd (omega (arith, eqb-true 0 (suc n) (and_left _ _ f)))
  times_back (suc n) (x ∷ xs) rest f =
      let count : suc (length xs) ≡ suc n = eqb-true (suc (length xs)) (suc n) (and_left _ _ f) in
      let each = and_right (eqb (suc (length xs)) (suc n)) (all fits (x ∷ xs)) f in
      rw (append_assoc (written x) (concat_map written xs) rest, one.back x (concat_map written xs ++ rest) (and_left _ _ each), times_back n xs rest (and_both _ _ (eq-eqb (length xs) n (omega arith)) (and_right (fits x) _ each)))

  pub times_ways : (n : ℕ) → BothWays (times n form) (concat_map written) (all_fit n)
  times_ways n = record { forth = times_forth n; back = times_back n }
