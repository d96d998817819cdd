-- What an insertion, expiry and a wipe do to a row's samples, and their first and newest instants.
use Prim.Native.Nat.{ℕ, ◌≤◌, ◌-◌, max}
use mathlib.Core.Path.{◌≡◌, refl, sym, ap, ◌∙◌}
use mathlib.Core.Bool.{Bool, true, false, cond}
use Rattle.std.specs.Prelude.{Option, None, Some}
use mathlib.Core.List.{[], ◌∷◌}
use native.Mathlib.Omega.{arith}
use lib.ListN.{length}
use lib.Dec.{eqb, leb}
use borrow.Author.Tests.{lt-ltb, le-ltb, eq-eqb, ne_eqb, le-leb, lt-leb, leb-true, leb-false, eqb-true}
use Rattle.geometry.specs.declared.isometry.Isometry.{Isometry}
use Rattle.buffer.specs.declared.kind.Kind.{Kind}
use Rattle.buffer.specs.declared.kind.Kind.TheVariants.{Static, Dynamic}
use Rattle.buffer.specs.Map.{all, get, put, keep}
use Rattle.buffer.specs.Samples.{Samples, newest, survives, expire, insert, remove_before, last?}
use Rattle.buffer.proofs.Cases.{both, none_some, false_true, Tri, less, same, more, tri}
use Rattle.buffer.proofs.Maps.{Rising, rising_put, rising_keep, get_put, get_keep, get_floor, ext, keep_all, keep_put_dropped, length_keep_le}
use Rattle.buffer.proofs.Alls.{all_weaken, all_put, all_keep, all_kept, all_get}

-- every sample survives the newest
abbrev pub Fresh : Option ℕ → Samples → Type 0
Fresh age m = all (λ x. survives age (newest m) x.0) m ≡ true

-- ---- the newest instant

pub newest_put : (i : ℕ) (p : Isometry) (m : Samples) → newest (put i p m) ≡ max i (newest m)
newest_put i p [] = refl
newest_put i p (x ∷ m) = go (tri i x.0) (newest_put i p m)
  where
    go : Tri i x.0 → newest (put i p m) ≡ max i (newest m) → newest (put i p (x ∷ m)) ≡ max i (newest (x ∷ m))
    go (less l) ih = rw (lt-ltb i x.0 l)
    go (same e) ih = rw (le-ltb i x.0 (omega arith), eq-eqb i x.0 e) (omega arith)
    go (more l) ih = rw (le-ltb i x.0 (omega arith), ne_eqb i x.0 (λ e. omega arith)) (omega arith)

pub newest_keep_le : (ok : ℕ → Bool) (m : Samples) → newest (keep ok m) ≤ newest m
newest_keep_le ok [] = omega arith
newest_keep_le ok (x ∷ m) =
    let ih = newest_keep_le ok m in
    both (ok x.0) (λ e. rw e (omega arith)) (λ e. rw e (omega arith))

pub newest_keep : (ok : ℕ → Bool) (m : Samples) → ok (newest m) ≡ true → newest (keep ok m) ≡ newest m
newest_keep ok [] h = refl
newest_keep ok (x ∷ m) h = go (tri x.0 (newest m)) (newest_keep ok m)
  where
    top : newest m ≤ x.0 → newest (keep ok (x ∷ m)) ≡ newest (x ∷ m)
    top l =
        let e : max x.0 (newest m) ≡ x.0 = omega arith in
        rw (ap ok (sym e) ∙ h) (omega (arith, newest_keep_le ok m))

    go : Tri x.0 (newest m) → (ok (newest m) ≡ true → newest (keep ok m) ≡ newest m) → newest (keep ok (x ∷ m)) ≡ newest (x ∷ m)
    go (less l) ih =
        let e : max x.0 (newest m) ≡ newest m = omega arith in
        let k = ih (ap ok (sym e) ∙ h) in
        both (ok x.0) (λ q. rw q (omega arith)) (λ q. rw q (omega arith))
    go (same l) ih = top (omega arith)
    go (more l) ih = top (omega arith)

-- no instant held is above it
pub newest_top : (m : Samples) (i : ℕ) (p : Isometry) → get m i ≡ Some p → i ≤ newest m
newest_top [] i p g = absurd (none_some g)
newest_top (x ∷ m) i p g =
    both (eqb i x.0)
    (λ e. let q = eqb-true i x.0 e in omega arith)
    (λ e. let ih = newest_top m i p (rw e at g) in omega arith)

-- of a rising map it is the last instant
pub newest_last : (m : Samples) (x : ℕ × Isometry) → Rising m → last? m ≡ Some x → newest m ≡ x.0
newest_last [] x r h = absurd (none_some h)
newest_last (y ∷ []) x r h =
    let q : y ≡ x = cc h in
    let e : y.0 ≡ x.0 = ap (λ (z : ℕ × Isometry). z.0) q in
    omega arith
newest_last (y ∷ z ∷ m) x r h = let ih = newest_last (z ∷ m) x r.1 h in let l = r.0.0 in omega arith

-- and it is held
pub newest_held : (x : ℕ × Isometry) (m : Samples) → Rising (x ∷ m) → (p : Isometry) × (get (x ∷ m) (newest (x ∷ m)) ≡ Some p)
newest_held x [] r = (x.1, rw (eq-eqb (max x.0 0) x.0 (omega arith)))
newest_held x (y ∷ m) r =
    let ih = newest_held y m r.1 in
    let l = r.0.0 in
    let e : newest (x ∷ y ∷ m) ≡ newest (y ∷ m) = omega arith in
    let n : newest (x ∷ y ∷ m) ≡ x.0 → ⊥ = λ q. omega arith in
    (ih.0, rw (ne_eqb (newest (x ∷ y ∷ m)) x.0 n) (ap (get (y ∷ m)) e ∙ ih.1))

-- no instant held is below the first
pub first_least : (x : ℕ × Isometry) (m : Samples) (i : ℕ) (p : Isometry) → Rising (x ∷ m) → get (x ∷ m) i ≡ Some p → x.0 ≤ i
first_least x m i p r g =
    both (leb x.0 i)
    (λ e. leb-true x.0 i e)
    (λ e.
    let l = leb-false x.0 i e in
    absurd (none_some (sym (rw (ne_eqb i x.0 (λ q. omega arith)) (get_floor x.0 i m r.0 (omega arith))) ∙ g)))

-- ---- which instants survive

pub survives_self : (age : Option ℕ) (n : ℕ) → survives age n n ≡ true
survives_self None n = refl
survives_self (Some a) n = le-leb (n - a) n (omega arith)

pub survives_zero : (age : Option ℕ) (i : ℕ) → survives age 0 i ≡ true
survives_zero None i = refl
survives_zero (Some a) i = le-leb (0 - a) i (omega arith)

-- what survives a newest instant survives an older one
pub survives_down : (age : Option ℕ) (n k i : ℕ) → k ≤ n → survives age n i ≡ true → survives age k i ≡ true
survives_down None n k i h e = refl
survives_down (Some a) n k i h e = let q = leb-true (n - a) i e in le-leb (k - a) i (omega arith)

-- what is dropped stays dropped for a later newest
pub dropped_up : (age : Option ℕ) (n k i : ℕ) → n ≤ k → survives age n i ≡ false → survives age k i ≡ false
dropped_up None n k i h e = e
dropped_up (Some a) n k i h e = let q = leb-false (n - a) i e in lt-leb (k - a) i (omega arith)

-- a later instant survives with an earlier one
pub survives_up : (age : Option ℕ) (n i j : ℕ) → i ≤ j → survives age n i ≡ true → survives age n j ≡ true
survives_up None n i j h e = refl
survives_up (Some a) n i j h e = let q = leb-true (n - a) i e in le-leb (n - a) j (omega arith)

-- ---- expiry

pub newest_expire : (age : Option ℕ) (m : Samples) → newest (expire age m) ≡ newest m
newest_expire age m = newest_keep (survives age (newest m)) m (survives_self age (newest m))

pub get_expire : (age : Option ℕ) (m : Samples) (j : ℕ) → get (expire age m) j ≡ cond (survives age (newest m) j) (get m j) None
get_expire age m j = get_keep (survives age (newest m)) m j

-- in a row of which every sample survives, nothing expires
pub expire_fresh : (age : Option ℕ) (m : Samples) → Fresh age m → expire age m ≡ m
expire_fresh age m h = keep_all (survives age (newest m)) m h

pub fresh_expire : (age : Option ℕ) (m : Samples) → Fresh age (expire age m)
fresh_expire age m = rw (newest_expire age m) (all_kept (survives age (newest m)) m)

-- in a rising row all survive with the first
pub fresh_first : (age : Option ℕ) (x : ℕ × Isometry) (m : Samples) → Rising (x ∷ m) → survives age (newest (x ∷ m)) x.0 ≡ true → Fresh age (x ∷ m)
fresh_first age x m r h =
    (all_get (λ y. survives age (newest (x ∷ m)) y.0) (x ∷ m) r).1
    (λ i p g. survives_up age (newest (x ∷ m)) x.0 i (first_least x m i p r g) h)

-- what a test keeps of them stays fresh
pub fresh_keep : (age : Option ℕ) (ok : ℕ → Bool) (m : Samples) → Fresh age m → Fresh age (keep ok m)
fresh_keep age ok m h =
    all_weaken (λ x. survives age (newest m) x.0) (λ x. survives age (newest (keep ok m)) x.0) (keep ok m)
    (λ x e. survives_down age (newest m) (newest (keep ok m)) x.0 (newest_keep_le ok m) e)
    (all_keep (λ x. survives age (newest m) x.0) ok m h)

-- ---- insertion

pub newest_insert_lem : (age : Option ℕ) (i : ℕ) (p : Isometry) (m : Samples) → newest (insert age i p m) ≡ max i (newest m)
newest_insert_lem age i p m = newest_expire age (put i p m) ∙ newest_put i p m

pub get_insert_lem : (age : Option ℕ) (i : ℕ) (p : Isometry) (m : Samples) (j : ℕ)
    → get (insert age i p m) j ≡ cond (survives age (max i (newest m)) j) (cond (eqb i j) (Some p) (get m j)) None
get_insert_lem age i p m j = get_expire age (put i p m) j ∙ rw (newest_put i p m, get_put i p m j)

pub rising_insert : (age : Option ℕ) (i : ℕ) (p : Isometry) (m : Samples) → Rising m → Rising (insert age i p m)
rising_insert age i p m r = rising_keep (survives age (newest (put i p m))) (put i p m) (rising_put i p m r)

pub fresh_insert : (age : Option ℕ) (i : ℕ) (p : Isometry) (m : Samples) → Fresh age (insert age i p m)
fresh_insert age i p m = fresh_expire age (put i p m)

pub all_insert : (test : ℕ × Isometry → Bool) (age : Option ℕ) (i : ℕ) (p : Isometry) (m : Samples)
    → test (i, p) ≡ true → all test m ≡ true → all test (insert age i p m) ≡ true
all_insert test age i p m t h = all_keep test (survives age (newest (put i p m))) (put i p m) (all_put test i p m t h)

-- an insertion after an insertion: the first expires with the second's newest too
pub get_insert_twice : (age : Option ℕ) (i j : ℕ) (p q : Isometry) (m : Samples) (k : ℕ)
    → get (insert age j q (insert age i p m)) k
    ≡ cond (survives age (max j (max i (newest m))) k) (cond (eqb j k) (Some q) (cond (eqb i k) (Some p) (get m k))) None
get_insert_twice age i j p q m k =
    get_insert_lem age j q (insert age i p m) k
    ∙ rw (newest_insert_lem age i p m, get_insert_lem age i p m k)
    (both (survives age (max j (max i (newest m))) k)
    (λ e. rw (e, survives_down age (max j (max i (newest m))) (max i (newest m)) k (omega arith) e))
    (λ e. rw e))

-- of two insertions at different instants either may come first
pub insert_other : (age : Option ℕ) (i j : ℕ) (p q : Isometry) (m : Samples) → Rising m → (i ≡ j → ⊥)
    → insert age j q (insert age i p m) ≡ insert age i p (insert age j q m)
insert_other age i j p q m r n =
    ext (insert age j q (insert age i p m)) (insert age i p (insert age j q m))
    (rising_insert age j q (insert age i p m) (rising_insert age i p m r))
    (rising_insert age i p (insert age j q m) (rising_insert age j q m r))
    at_each
  where
    at_each : (k : ℕ) → get (insert age j q (insert age i p m)) k ≡ get (insert age i p (insert age j q m)) k
    at_each k =
        let e : max j (max i (newest m)) ≡ max i (max j (newest m)) = omega arith in
        rw (get_insert_twice age i j p q m k, get_insert_twice age j i q p m k, e)
        (both (eqb j k)
        (λ h. rw (h, ne_eqb i k (λ z. n (z ∙ sym (eqb-true j k h)))))
        (λ h. rw h))

-- a late one already too old is not held, and nothing else changes
pub insert_late : (age : Option ℕ) (i : ℕ) (p : Isometry) (m : Samples) → Fresh age m → survives age (newest m) i ≡ false → insert age i p m ≡ m
insert_late age i p m f h =
    let e : newest (put i p m) ≡ newest m = newest_put i p m ∙ below (tri i (newest m)) in
    ap (λ (n : ℕ). keep (survives age n) (put i p m)) e
    ∙ keep_put_dropped (survives age (newest m)) i p m h
    ∙ keep_all (survives age (newest m)) m f
  where
    below : Tri i (newest m) → max i (newest m) ≡ newest m
    below (less l) = omega arith
    below (same l) = omega arith
    below (more l) = absurd (false_true (sym h ∙ survives_up age (newest m) (newest m) i (omega arith) (survives_self age (newest m))))

pub insert_empty : (age : Option ℕ) (i : ℕ) (p : Isometry) → insert age i p [] ≡ (i, p) ∷ []
insert_empty age i p = let e : max i 0 ≡ i = omega arith in rw (e, survives_self age i)

-- the single pose of a static row is replaced
pub insert_single : (age : Option ℕ) (i : ℕ) (p q : Isometry) → insert age i q ((i, p) ∷ []) ≡ (i, q) ∷ []
insert_single age i p q =
    let e : max i 0 ≡ i = omega arith in
    rw (le-ltb i i (omega arith), eq-eqb i i refl, e, survives_self age i)

-- ---- wipes

pub get_remove_before_lem : (i : ℕ) (m : Samples) (j : ℕ) → get (remove_before Dynamic i m) j ≡ cond (leb i j) (get m j) None
get_remove_before_lem i m j = get_keep (leb i) m j

pub rising_remove_before : (k : Kind) (i : ℕ) (m : Samples) → Rising m → Rising (remove_before k i m)
rising_remove_before Static i m r = r
rising_remove_before Dynamic i m r = rising_keep (leb i) m r

pub fresh_remove_before : (age : Option ℕ) (k : Kind) (i : ℕ) (m : Samples) → Fresh age m → Fresh age (remove_before k i m)
fresh_remove_before age Static i m f = f
fresh_remove_before age Dynamic i m f = fresh_keep age (leb i) m f

pub all_remove_before : (test : ℕ × Isometry → Bool) (k : Kind) (i : ℕ) (m : Samples) → all test m ≡ true → all test (remove_before k i m) ≡ true
all_remove_before test Static i m h = h
all_remove_before test Dynamic i m h = all_keep test (leb i) m h

pub length_remove_before_le : (k : Kind) (i : ℕ) (m : Samples) → length (remove_before k i m) ≤ length m
length_remove_before_le Static i m = omega arith
length_remove_before_le Dynamic i m = length_keep_le (leb i) m
