-- A number's place in a rising list: what is below it, what a search has shown, and what is put in, replaced or dropped there.
use Prim.Native.Nat.{ℕ, zero, suc, ◌-◌, ◌≤◌, ◌<◌, zero-le, suc-le-suc}
use mathlib.Core.Path.{◌≡◌, refl, sym, ap, ◌∙◌}
use mathlib.Core.Bool.{true}
use Rattle.std.specs.Prelude.{Option, Some}
use mathlib.Core.List.{List, [], ◌∷◌, ◌++◌}
use mathlib.Core.Logic.{⊎_elim}
use native.Mathlib.Nat.{not-suc-le-zero, le_of_suc-le-suc, le_refl, le_of_lt, eq-or-lt_of_le}
use native.Mathlib.Numerals.{sub-one}
use native.Mathlib.Omega.{arith}
use lib.Dec.{ltb, leb}
use lib.ListN.{length, get_or, set, take, drop}
use lib.Ieee.{Float}
use Rattle.geometry.specs.declared.isometry.Isometry.{Isometry}
use lib.Seq.{get_or-take, length-take-le}
use borrow.Author.Tests.{lt-ltb, le-ltb, le-leb, lt-leb, eq-eqb, ne_eqb, ltb-true}
use Rattle.buffer.specs.Map.{Map, all, ascending, keys, put, keep}
use Rattle.buffer.specs.Samples.{newest, last?, range}
use Rattle.buffer.specs.Row.{pose_of, samples_of, below, Instants, Row}
use Rattle.buffer.proofs.Cases.{both, and_left, and_right, Tri, less, same, more, tri}
use Rattle.buffer.proofs.Alls.{all_at}
use Rattle.buffer.proofs.Maps.{Floor, Rising, rising_is}
use Rattle.buffer.proofs.SampleLaws.{newest_last}
use Rattle.buffer.proofs.RowBack.{length_samples_of, held_instants}
use Rattle.buffer.proofs.RowWords.{sample_at}

-- ---- what a search shows

-- all before r are below t, and none from r on
below_is : (t : ℕ) (l : List ℕ) (r : ℕ) → r ≤ length l → ((k : ℕ) → k < r → get_or l k 0 < t) → ((k : ℕ) → r ≤ k → k < length l → t ≤ get_or l k 0) → r ≡ below t l
below_is t [] r h b a = omega arith
below_is t (i ∷ l) zero h b a =
    rw (le-ltb i t (a 0 zero-le (suc-le-suc zero-le)))
    (below_is t l zero zero-le (λ k p. absurd (not-suc-le-zero p)) (λ k p q. a (suc k) zero-le (suc-le-suc q)))
below_is t (i ∷ l) (suc r) h b a =
    rw (lt-ltb i t (b zero (suc-le-suc zero-le)))
    (ap suc (below_is t l r (le_of_suc-le-suc h) (λ k p. b (suc k) (suc-le-suc p)) (λ k p q. a (suc k) (suc-le-suc p) (suc-le-suc q))))

below_le : (t : ℕ) (l : List ℕ) → below t l ≤ length l
below_le t [] = zero-le
below_le t (i ∷ l) = let ih = below_le t l in both (ltb i t) (λ e. rw e (suc-le-suc ih)) (λ e. rw e (omega arith))

ascending_lt : (l : List ℕ) → ascending l ≡ true → (k j : ℕ) → k < j → j < length l → get_or l k 0 < get_or l j 0
ascending_lt [] h k j p q = absurd (not-suc-le-zero q)
ascending_lt (i ∷ l) h k zero p q = absurd (not-suc-le-zero p)
ascending_lt (i ∷ l) h zero (suc j) p q = ltb-true i (get_or l j 0) ((all_at (ltb i) l 0).0 (and_left _ _ h) j (le_of_suc-le-suc q))
ascending_lt (i ∷ l) h (suc k) (suc j) p q = ascending_lt l (and_right (all (ltb i) l) _ h) k j (le_of_suc-le-suc p) (le_of_suc-le-suc q)

module _ (n : ℕ) (l : List ℕ) (held : Instants n l) where
  -- the same of the first n of a longer list, whose elements are read where they lie
  pub place_is : (t r : ℕ) → r ≤ n → ((k : ℕ) → k < r → get_or l k 0 < t) → ((k : ℕ) → r ≤ k → k < n → t ≤ get_or l k 0) → r ≡ below t (take n l)
  place_is t r q b a =
      let m : length (take n l) ≡ n = length-take-le n l held.fits in
      below_is t (take n l) r (omega arith)
      (λ k p. rw (get_or-take n l k 0 (omega arith)) (b k p))
      (λ k p s. rw (get_or-take n l k 0 (omega arith)) (a k p (omega arith)))

  pub place_le : (t k : ℕ) → k ≡ below t (take n l) → k ≤ n
  place_le t k q = omega (arith, below_le t (take n l), length-take-le n l held.fits)

  pub held_lt : (k j : ℕ) → k < j → j < n → get_or l k 0 < get_or l j 0
  held_lt k j p q =
      let m : length (take n l) ≡ n = length-take-le n l held.fits in
      let z : get_or (take n l) k 0 < get_or (take n l) j 0 = ascending_lt (take n l) held.rises k j p (omega arith) in
      rw (get_or-take n l k 0 (omega arith), get_or-take n l j 0 q) at z

  pub held_le : (k j : ℕ) → k ≤ j → j < n → get_or l k 0 ≤ get_or l j 0
  held_le k j p q = ⊎_elim (λ e. rw e (le_refl (get_or l j 0))) (λ lt. le_of_lt (held_lt k j lt q)) (eq-or-lt_of_le p)

-- ---- in a map

module _ {A : Type 0} where
  -- t's place
  abbrev pub cut : ℕ → Map A → ℕ
  cut t m = below t (keys m)

  -- nothing is below t where all is above k and t is not
  cut_floor : (k t : ℕ) (m : Map A) → Floor k m → t ≤ k → cut t m ≡ 0
  cut_floor k t [] f h = refl
  cut_floor k t (x ∷ m) f h = let f₀ = f.0 in rw (le-ltb x.0 t (omega arith)) (cut_floor k t m f.1 h)

  keep_floor : (k t : ℕ) (m : Map A) → Floor k m → t ≤ k → keep (leb t) m ≡ m
  keep_floor k t [] f h = refl
  keep_floor k t (x ∷ m) f h = let f₀ = f.0 in rw (le-leb t x.0 (omega arith)) (ap {B = Map A} (λ r. x ∷ r) (keep_floor k t m f.1 h))

  -- before its place all is below t, and from there on nothing is
  pub cut_below : (t : ℕ) (m : Map A) → Rising m → (i : ℕ) → i < cut t m → get_or (keys m) i 0 < t
  cut_below t [] r i h = absurd (not-suc-le-zero h)
  cut_below t (x ∷ m) r i h = go (tri t x.0) i h (cut_below t m r.1)
    where
      low : t ≤ x.0 → cut t (x ∷ m) ≡ 0
      low l = rw (le-ltb x.0 t l) (cut_floor x.0 t m r.0 l)

      go : Tri t x.0 → (i : ℕ) → i < cut t (x ∷ m) → ((j : ℕ) → j < cut t m → get_or (keys m) j 0 < t) → get_or (keys (x ∷ m)) i 0 < t
      go (less l) i h ih = absurd (not-suc-le-zero (rw (low (omega arith)) at h))
      go (same e) i h ih = absurd (not-suc-le-zero (rw (low (omega arith)) at h))
      go (more l) zero h ih = l
      go (more l) (suc i) h ih = ih i (le_of_suc-le-suc (rw (lt-ltb x.0 t l) at h))

  pub cut_above : (t : ℕ) (m : Map A) → Rising m → (i : ℕ) → cut t m ≤ i → i < length m → t ≤ get_or (keys m) i 0
  cut_above t [] r i h g = absurd (not-suc-le-zero g)
  cut_above t (x ∷ m) r i h g = go (tri t x.0) i h g (cut_above t m r.1)
    where
      high : t ≤ x.0 → (i : ℕ) → i < length (x ∷ m) → ((j : ℕ) → cut t m ≤ j → j < length m → t ≤ get_or (keys m) j 0) → t ≤ get_or (keys (x ∷ m)) i 0
      high l zero g ih = l
      high l (suc i) g ih = ih i (omega (arith, cut_floor x.0 t m r.0 l)) (le_of_suc-le-suc g)

      go : Tri t x.0 → (i : ℕ) → cut t (x ∷ m) ≤ i → i < length (x ∷ m) → ((j : ℕ) → cut t m ≤ j → j < length m → t ≤ get_or (keys m) j 0) → t ≤ get_or (keys (x ∷ m)) i 0
      go (less l) i h g ih = high (omega arith) i g ih
      go (same e) i h g ih = high (omega arith) i g ih
      go (more l) zero h g ih = let z : suc (cut t m) ≤ 0 = rw (lt-ltb x.0 t l) at h in absurd (not-suc-le-zero z)
      go (more l) (suc i) h g ih = ih i (le_of_suc-le-suc (rw (lt-ltb x.0 t l) at h)) (le_of_suc-le-suc g)

  -- what is not below t is what stands from its place on
  pub keep_from : (t : ℕ) (m : Map A) → Rising m → keep (leb t) m ≡ drop (cut t m) m
  keep_from t [] r = refl
  keep_from t (x ∷ m) r =
      let ih = keep_from t m r.1 in
      go (tri t x.0) ih
    where
      stays : t ≤ x.0 → keep (leb t) (x ∷ m) ≡ drop (cut t (x ∷ m)) (x ∷ m)
      stays h = rw (le-leb t x.0 h, le-ltb x.0 t h, cut_floor x.0 t m r.0 h) (ap {B = Map A} (λ s. x ∷ s) (keep_floor x.0 t m r.0 h))

      go : Tri t x.0 → keep (leb t) m ≡ drop (cut t m) m → keep (leb t) (x ∷ m) ≡ drop (cut t (x ∷ m)) (x ∷ m)
      go (less l) ih = stays (omega arith)
      go (same e) ih = stays (omega arith)
      go (more l) ih = rw (lt-leb t x.0 l, lt-ltb x.0 t l) ih

  -- a new number is put in at its place
  pub put_new : (t : ℕ) (v : A) (m : Map A) → Rising m → (cut t m < length m → get_or (keys m) (cut t m) 0 ≡ t → ⊥) → put t v m ≡ take (cut t m) m ++ (t, v) ∷ drop (cut t m) m
  put_new t v [] r ne = refl
  put_new t v (x ∷ m) r ne = go (tri t x.0) (put_new t v m r.1)
    where
      go : Tri t x.0 → ((cut t m < length m → get_or (keys m) (cut t m) 0 ≡ t → ⊥) → put t v m ≡ take (cut t m) m ++ (t, v) ∷ drop (cut t m) m)
          → put t v (x ∷ m) ≡ take (cut t (x ∷ m)) (x ∷ m) ++ (t, v) ∷ drop (cut t (x ∷ m)) (x ∷ m)
      go (less l) ih = rw (lt-ltb t x.0 l, le-ltb x.0 t (omega arith), cut_floor x.0 t m r.0 (omega arith))
      go (same e) ih =
          let z : cut t (x ∷ m) ≡ 0 = rw (le-ltb x.0 t (omega arith)) (cut_floor x.0 t m r.0 (omega arith)) in
          absurd (ne (rw z (suc-le-suc zero-le)) (rw z (sym e)))
      go (more l) ih =
          let z : cut t (x ∷ m) ≡ suc (cut t m) = rw (lt-ltb x.0 t l) in
          rw (le-ltb t x.0 (omega arith), ne_eqb t x.0 (λ e. omega arith), z)
          (ap {B = Map A} (λ s. x ∷ s) (ih (λ p q. ne (rw z (suc-le-suc p)) (rw z q))))

  -- one that is held is replaced there
  pub put_held : (t : ℕ) (v : A) (m : Map A) → Rising m → cut t m < length m → get_or (keys m) (cut t m) 0 ≡ t → put t v m ≡ set m (cut t m) (t, v)
  put_held t v [] r h e = absurd (not-suc-le-zero h)
  put_held t v (x ∷ m) r h e = go (tri t x.0) (put_held t v m r.1)
    where
      go : Tri t x.0 → (cut t m < length m → get_or (keys m) (cut t m) 0 ≡ t → put t v m ≡ set m (cut t m) (t, v)) → put t v (x ∷ m) ≡ set (x ∷ m) (cut t (x ∷ m)) (t, v)
      go (less l) ih =
          let z : cut t (x ∷ m) ≡ 0 = rw (le-ltb x.0 t (omega arith)) (cut_floor x.0 t m r.0 (omega arith)) in
          let q : x.0 ≡ t = rw z at e in
          absurd (omega arith)
      go (same q) ih = rw (le-ltb t x.0 (omega arith), eq-eqb t x.0 q, le-ltb x.0 t (omega arith), cut_floor x.0 t m r.0 (omega arith))
      go (more l) ih =
          let z : cut t (x ∷ m) ≡ suc (cut t m) = rw (lt-ltb x.0 t l) in
          rw (le-ltb t x.0 (omega arith), ne_eqb t x.0 (λ q. omega arith), z)
          (ap {B = Map A} (λ s. x ∷ s) (ih (le_of_suc-le-suc (rw z at h)) (rw z at e)))

-- ---- of a row's instants

module _ {A : Type 0} where
  -- the last of a list that is not empty
  pub last_at : (l : List A) (k : ℕ) (d : A) → length l ≡ suc k → last? l ≡ Some (get_or l k d)
  last_at [] k d e = absurd (omega arith)
  last_at (x ∷ []) zero d e = refl
  last_at (x ∷ []) (suc k) d e = absurd (omega arith)
  last_at (x ∷ y ∷ l) zero d e = absurd (omega arith)
  last_at (x ∷ y ∷ l) (suc k) d e = last_at (y ∷ l) k d (omega arith)

pub row_held : (n : ℕ) (ts : List ℕ) (fs : List Float) → Row n ts fs → Instants n ts
row_held n ts fs r = record {
  fits = r.fits;
  rises = ap ascending (sym (held_instants n ts fs r.fits)) ∙ r.rises;
}

module _ (n : ℕ) (ts : List ℕ) (fs : List Float) (held : Instants n ts) where
  pub rising_held : Rising (samples_of n ts fs)
  rising_held = (rising_is (samples_of n ts fs)).0 (ap ascending (held_instants n ts fs held.fits) ∙ held.rises)

  pub newest_at : (k : ℕ) → n ≡ suc k → newest (samples_of n ts fs) ≡ get_or ts k 0
  newest_at k e =
      let d : ℕ × Isometry = (0, pose_of []) in
      newest_last (samples_of n ts fs) (get_or (samples_of n ts fs) k d) rising_held (last_at (samples_of n ts fs) k d (length_samples_of n ts fs ∙ e))
      ∙ ap (λ (x : ℕ × Isometry). x.0) (sample_at n ts fs k d (omega arith))

  -- an instant, where it lies
  pub key_at : (i : ℕ) → i < n → get_or (keys (samples_of n ts fs)) i 0 ≡ get_or ts i 0
  key_at i h = ap (λ (l : List ℕ). get_or l i 0) (held_instants n ts fs held.fits) ∙ get_or-take n ts i 0 h

  -- how many instants are below t is t's place among the samples
  pub place_cut : (t k : ℕ) → k ≡ below t (take n ts) → k ≡ cut t (samples_of n ts fs)
  place_cut t k q = q ∙ ap (below t) (sym (held_instants n ts fs held.fits))

pub range_held : (n : ℕ) (ts : List ℕ) (fs : List Float) → Instants n ts → 0 < n → range (samples_of n ts fs) ≡ Some (get_or ts 0 0, get_or ts (n - 1) 0)
range_held zero ts fs held h = absurd (not-suc-le-zero h)
range_held (suc k) ts fs held h = rw sub-one (ap {B = Option (ℕ × ℕ)} (λ b. Some (get_or ts 0 0, b)) (newest_at (suc k) ts fs held k refl))
