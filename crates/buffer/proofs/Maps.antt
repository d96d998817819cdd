-- What `put` and `keep` do to `get`; two rising maps with equal `get` are equal.
use Prim.Native.Nat.{ℕ, zero, suc, ◌<◌, ◌≤◌}
use mathlib.Core.Path.{◌≡◌, refl, sym, ap, ◌∙◌}
use mathlib.Core.Logic.{◌↔◌}
use mathlib.Core.Bool.{Bool, true, false, cond, ◌&&◌}
use Rattle.std.specs.Prelude.{None, Some}
use mathlib.Core.List.{[], ◌∷◌}
use native.Mathlib.Omega.{arith}
use lib.ListN.{length, get_or, drop}
use lib.Dec.{eqb, ltb}
use borrow.Author.Tests.{lt-ltb, le-ltb, eq-eqb, ne_eqb, ltb-true, eqb-true, eqb-false}
use Rattle.buffer.specs.Map.{Map, all, keys, get, put, keep, rising}
use Rattle.buffer.proofs.Cases.{both, none_some, and_both, and_left, and_right, Tri, less, same, more, tri}

-- ---- rising, as a type

module _ {A : Type 0} where
  -- every number is above k
  abbrev pub Floor : ℕ → Map A → Type 0
  Floor k [] = Unit {0}
  Floor k (x ∷ m) = (k < x.0) × Floor k m

  abbrev pub Rising : Map A → Type 0
  Rising [] = Unit {0}
  Rising (x ∷ m) = Floor x.0 m × Rising m

  floor_of : (k : ℕ) (m : Map A) → all (ltb k) (keys m) ≡ true → Floor k m
  floor_of k [] e = tt
  floor_of k (x ∷ m) e = (ltb-true k x.0 (and_left _ _ e), floor_of k m (and_right (ltb k x.0) _ e))

  of_floor : (k : ℕ) (m : Map A) → Floor k m → all (ltb k) (keys m) ≡ true
  of_floor k [] f = refl
  of_floor k (x ∷ m) f = and_both _ _ (lt-ltb k x.0 f.0) (of_floor k m f.1)

  rising_of : (m : Map A) → rising m ≡ true → Rising m
  rising_of [] e = tt
  rising_of (x ∷ m) e = (floor_of x.0 m (and_left _ _ e), rising_of m (and_right (all (ltb x.0) (keys m)) _ e))

  of_rising : (m : Map A) → Rising m → rising m ≡ true
  of_rising [] r = refl
  of_rising (x ∷ m) r = and_both _ _ (of_floor x.0 m r.0) (of_rising m r.1)

  pub rising_is : (m : Map A) → (rising m ≡ true) ↔ Rising m
  rising_is m = (rising_of m, of_rising m)

  pub floor_down : (j k : ℕ) (m : Map A) → j ≤ k → Floor k m → Floor j m
  floor_down j k [] h f = tt
  floor_down j k (x ∷ m) h f = (let f₀ = f.0 in omega arith, floor_down j k m h f.1)

  pub floor_put : (k j : ℕ) (v : A) (m : Map A) → k < j → Floor k m → Floor k (put j v m)
  floor_put k j v [] h f = (h, tt)
  floor_put k j v (x ∷ m) h f = go (tri j x.0) (floor_put k j v m h f.1)
    where
      go : Tri j x.0 → Floor k (put j v m) → Floor k (put j v (x ∷ m))
      go (less l) ih = rw (lt-ltb j x.0 l) (h, f)
      go (same e) ih = rw (le-ltb j x.0 (omega arith), eq-eqb j x.0 e) (h, f.1)
      go (more l) ih = rw (le-ltb j x.0 (omega arith), ne_eqb j x.0 (λ e. omega arith)) (f.0, ih)

  pub rising_put : (j : ℕ) (v : A) (m : Map A) → Rising m → Rising (put j v m)
  rising_put j v [] r = (tt, tt)
  rising_put j v (x ∷ m) r = go (tri j x.0) (rising_put j v m r.1)
    where
      go : Tri j x.0 → Rising (put j v m) → Rising (put j v (x ∷ m))
      go (less l) ih = rw (lt-ltb j x.0 l) ((l, floor_down j x.0 m (omega arith) r.0), r)
      go (same e) ih = rw (le-ltb j x.0 (omega arith), eq-eqb j x.0 e) (floor_down j x.0 m (omega arith) r.0, r.1)
      go (more l) ih = rw (le-ltb j x.0 (omega arith), ne_eqb j x.0 (λ e. omega arith)) (floor_put x.0 j v m l r.0, ih)

  pub floor_keep : (k : ℕ) (ok : ℕ → Bool) (m : Map A) → Floor k m → Floor k (keep ok m)
  floor_keep k ok [] f = tt
  floor_keep k ok (x ∷ m) f =
      let ih = floor_keep k ok m f.1 in
      both (ok x.0) (λ e. rw e (f.0, ih)) (λ e. rw e ih)

  pub rising_keep : (ok : ℕ → Bool) (m : Map A) → Rising m → Rising (keep ok m)
  rising_keep ok [] r = tt
  rising_keep ok (x ∷ m) r =
      let ih = rising_keep ok m r.1 in
      both (ok x.0) (λ e. rw e (floor_keep x.0 ok m r.0, ih)) (λ e. rw e ih)

  pub rising_drop : (k : ℕ) (m : Map A) → Rising m → Rising (drop k m)
  rising_drop zero m r = r
  rising_drop (suc k) [] r = tt
  rising_drop (suc k) (x ∷ m) r = rising_drop k m r.1

  floor_at : (k : ℕ) (m : Map A) (i : ℕ) (d : ℕ × A) → Floor k m → i < length m → k < (get_or m i d).0
  floor_at k [] i d f h = absurd (omega arith)
  floor_at k (x ∷ m) zero d f h = f.0
  floor_at k (x ∷ m) (suc i) d f h = floor_at k m i d f.1 (omega arith)

  -- by index
  -- ---- get

  pub get_floor : (k j : ℕ) (m : Map A) → Floor k m → j ≤ k → get m j ≡ None
  get_floor k j [] f h = refl
  get_floor k j (x ∷ m) f h = rw (ne_eqb j x.0 (λ e. let f₀ = f.0 in omega arith)) (get_floor k j m f.1 h)

  pub get_put_same : (j : ℕ) (v : A) (m : Map A) → get (put j v m) j ≡ Some v
  get_put_same j v [] = rw (eq-eqb j j refl)
  get_put_same j v (x ∷ m) = go (tri j x.0) (get_put_same j v m)
    where
      go : Tri j x.0 → get (put j v m) j ≡ Some v → get (put j v (x ∷ m)) j ≡ Some v
      go (less l) ih = rw (lt-ltb j x.0 l, eq-eqb j j refl)
      go (same e) ih = rw (le-ltb j x.0 (omega arith), eq-eqb j x.0 e, eq-eqb j j refl)
      go (more l) ih = rw (le-ltb j x.0 (omega arith), ne_eqb j x.0 (λ e. omega arith), ne_eqb j x.0 (λ e. omega arith)) ih

  pub get_put_other : (j k : ℕ) (v : A) (m : Map A) → (k ≡ j → ⊥) → get (put j v m) k ≡ get m k
  get_put_other j k v [] n = rw (ne_eqb k j n)
  get_put_other j k v (x ∷ m) n = go (tri j x.0) (get_put_other j k v m n)
    where
      go : Tri j x.0 → get (put j v m) k ≡ get m k → get (put j v (x ∷ m)) k ≡ get (x ∷ m) k
      go (less l) ih = rw (lt-ltb j x.0 l, ne_eqb k j n)
      go (same e) ih = rw (le-ltb j x.0 (omega arith), eq-eqb j x.0 e, ne_eqb k j n, ne_eqb k x.0 (λ q. n (q ∙ sym e)))
      go (more l) ih = rw (le-ltb j x.0 (omega arith), ne_eqb j x.0 (λ e. omega arith)) (ap (cond (eqb k x.0) (Some x.1)) ih)

  pub get_put : (j : ℕ) (v : A) (m : Map A) (k : ℕ) → get (put j v m) k ≡ cond (eqb j k) (Some v) (get m k)
  get_put j v m k =
      both (eqb j k)
      (λ e. rw (e, ← eqb-true j k e) (get_put_same j v m))
      (λ e. rw e (get_put_other j k v m (λ q. eqb-false j k e (sym q))))

  pub get_keep : (ok : ℕ → Bool) (m : Map A) (k : ℕ) → get (keep ok m) k ≡ cond (ok k) (get m k) None
  get_keep ok [] k = both (ok k) (λ e. rw e) (λ e. rw e)
  get_keep ok (x ∷ m) k = go (ok x.0) refl (eqb k x.0) refl (get_keep ok m k)
    where
      go : (b : Bool) → ok x.0 ≡ b → (e : Bool) → eqb k x.0 ≡ e
          → get (keep ok m) k ≡ cond (ok k) (get m k) None → get (keep ok (x ∷ m)) k ≡ cond (ok k) (get (x ∷ m) k) None
      go true p true q ih = rw (p, q, ap ok (eqb-true k x.0 q) ∙ p)
      go true p false q ih = rw (p, q) ih
      go false p true q ih = let n = ap ok (eqb-true k x.0 q) ∙ p in rw (p, q) (ih ∙ rw n)
      go false p false q ih = rw (p, q) ih

  pub get_here : (x : ℕ × A) (m : Map A) (k : ℕ) → k ≡ x.0 → get (x ∷ m) k ≡ Some x.1
  get_here x m k e = rw (eq-eqb k x.0 e)

  pub get_there : (x : ℕ × A) (m : Map A) (k : ℕ) → (k ≡ x.0 → ⊥) → get (x ∷ m) k ≡ get m k
  get_there x m k n = rw (ne_eqb k x.0 n)

  pub get_head : (x : ℕ × A) (m : Map A) → get (x ∷ m) x.0 ≡ Some x.1
  get_head x m = get_here x m x.0 refl

  -- by index
  pub get_at : (m : Map A) (i : ℕ) (d : ℕ × A) → Rising m → i < length m → get m (get_or m i d).0 ≡ Some (get_or m i d).1
  get_at [] i d r h = absurd (omega arith)
  get_at (x ∷ m) zero d r h = get_head x m
  get_at (x ∷ m) (suc i) d r h =
      let l = floor_at x.0 m i d r.0 (omega arith) in
      get_there x m (get_or m i d).0 (λ e. omega arith) ∙ get_at m i d r.1 (omega arith)

  -- two rising maps with equal `get` are equal
  pub ext : (a b : Map A) → Rising a → Rising b → ((k : ℕ) → get a k ≡ get b k) → a ≡ b
  ext [] [] ra rb h = refl
  ext [] (y ∷ b) ra rb h = absurd (none_some (h y.0 ∙ get_head y b))
  ext (x ∷ a) [] ra rb h = absurd (none_some (sym (h x.0) ∙ get_head x a))
  ext (x ∷ a) (y ∷ b) ra rb h = go (tri x.0 y.0) (ext a b ra.1 rb.1)
    where
      tails : x.0 ≡ y.0 → (k : ℕ) → get a k ≡ get b k
      tails e k = by (tri k x.0)
        where
          by : Tri k x.0 → get a k ≡ get b k
          by (less l) = get_floor x.0 k a ra.0 (omega arith) ∙ sym (get_floor y.0 k b rb.0 (omega arith))
          by (same l) = get_floor x.0 k a ra.0 (omega arith) ∙ sym (get_floor y.0 k b rb.0 (omega arith))
          by (more l) = rw (ne_eqb k x.0 (λ q. omega arith), ne_eqb k y.0 (λ q. omega arith)) at (h k)

      go : Tri x.0 y.0 → (((k : ℕ) → get a k ≡ get b k) → a ≡ b) → x ∷ a ≡ y ∷ b
      go (less l) ih = absurd (none_some (sym (rw (ne_eqb x.0 y.0 (λ e. omega arith)) (get_floor y.0 x.0 b rb.0 (omega arith))) ∙ sym (h x.0) ∙ get_head x a))
      go (more l) ih = absurd (none_some (sym (rw (ne_eqb y.0 x.0 (λ e. omega arith)) (get_floor x.0 y.0 a ra.0 (omega arith))) ∙ h y.0 ∙ get_head y b))
      go (same e) ih =
          let there : get (y ∷ b) x.0 ≡ Some y.1 = rw (eq-eqb x.0 y.0 e) in
          let both_some : Some x.1 ≡ Some y.1 = sym (get_head x a) ∙ h x.0 ∙ there in
          let values : x.1 ≡ y.1 = cc both_some in
          λ i. (e i, values i) ∷ ih (tails e) i

  -- ---- put and keep, in one order or another

  pub put_again : (k : ℕ) (v w : A) (m : Map A) → put k w (put k v m) ≡ put k w m
  put_again k v w [] = rw (le-ltb k k (omega arith), eq-eqb k k refl)
  put_again k v w (x ∷ m) = go (tri k x.0) (put_again k v w m)
    where
      go : Tri k x.0 → put k w (put k v m) ≡ put k w m → put k w (put k v (x ∷ m)) ≡ put k w (x ∷ m)
      go (less l) ih = rw (lt-ltb k x.0 l, le-ltb k k (omega arith), eq-eqb k k refl)
      go (same e) ih = rw (le-ltb k x.0 (omega arith), eq-eqb k x.0 e, le-ltb k k (omega arith), eq-eqb k k refl)
      go (more l) ih =
          let a = le-ltb k x.0 (omega arith) in
          let b = ne_eqb k x.0 (λ e. omega arith) in
          rw (a, b, a, b) (ap {B = Map A} (λ r. x ∷ r) ih)

  -- two values at different keys may be put in either order
  pub put_other : (j k : ℕ) (v w : A) (m : Map A) → Rising m → (j ≡ k → ⊥) → put k w (put j v m) ≡ put j v (put k w m)
  put_other j k v w m r n =
      ext (put k w (put j v m)) (put j v (put k w m)) (rising_put k w (put j v m) (rising_put j v m r)) (rising_put j v (put k w m) (rising_put k w m r)) at_each
    where
      at_each : (i : ℕ) → get (put k w (put j v m)) i ≡ get (put j v (put k w m)) i
      at_each i =
          rw (get_put k w (put j v m) i, get_put j v (put k w m) i, get_put j v m i, get_put k w m i)
          (both (eqb k i)
          (λ p. let q : eqb j i ≡ false = ne_eqb j i (λ e. n (e ∙ sym (eqb-true k i p))) in rw (p, q))
          (λ p. rw p))

  -- what is kept of a map whose keys all pass is the map
  pub keep_all : (ok : ℕ → Bool) (m : Map A) → all (λ x. ok x.0) m ≡ true → keep ok m ≡ m
  keep_all ok [] h = refl
  keep_all ok (x ∷ m) h = rw (and_left (ok x.0) _ h) (ap {B = Map A} (λ r. x ∷ r) (keep_all ok m (and_right (ok x.0) _ h)))

  pub keep_keep : (p q : ℕ → Bool) (m : Map A) → keep p (keep q m) ≡ keep (λ k. q k && p k) m
  keep_keep p q [] = refl
  keep_keep p q (x ∷ m) =
      let ih = keep_keep p q m in
      both (q x.0)
      (λ e. rw e (both (p x.0) (λ f. rw f (ap {B = Map A} (λ r. x ∷ r) ih)) (λ f. rw f ih)))
      (λ e. rw e ih)

  pub keep_put : (ok : ℕ → Bool) (k : ℕ) (v : A) (m : Map A) → Rising m → ok k ≡ true → keep ok (put k v m) ≡ put k v (keep ok m)
  keep_put ok k v m r h =
      ext (keep ok (put k v m)) (put k v (keep ok m)) (rising_keep ok (put k v m) (rising_put k v m r)) (rising_put k v (keep ok m) (rising_keep ok m r)) at_each
    where
      at_each : (i : ℕ) → get (keep ok (put k v m)) i ≡ get (put k v (keep ok m)) i
      at_each i =
          rw (get_keep ok (put k v m) i, get_put k v m i, get_put k v (keep ok m) i, get_keep ok m i)
          (both (eqb k i)
          (λ e. let q : ok i ≡ true = ap ok (sym (eqb-true k i e)) ∙ h in rw (e, q))
          (λ e. rw e))

  pub keep_put_dropped : (ok : ℕ → Bool) (k : ℕ) (v : A) (m : Map A) → ok k ≡ false → keep ok (put k v m) ≡ keep ok m
  keep_put_dropped ok k v [] h = rw h
  keep_put_dropped ok k v (x ∷ m) h = go (tri k x.0) (keep_put_dropped ok k v m h)
    where
      go : Tri k x.0 → keep ok (put k v m) ≡ keep ok m → keep ok (put k v (x ∷ m)) ≡ keep ok (x ∷ m)
      go (less l) ih = rw (lt-ltb k x.0 l, h)
      go (same e) ih = rw (le-ltb k x.0 (omega arith), eq-eqb k x.0 e, h, ap ok (sym e) ∙ h)
      go (more l) ih =
          rw (le-ltb k x.0 (omega arith), ne_eqb k x.0 (λ e. omega arith))
          (both (ok x.0) (λ e. rw e (ap {B = Map A} (λ r. x ∷ r) ih)) (λ e. rw e ih))

  -- ---- how many

  pub length_put_new : (k : ℕ) (v : A) (m : Map A) → get m k ≡ None → length (put k v m) ≡ suc (length m)
  length_put_new k v [] h = refl
  length_put_new k v (x ∷ m) h = go (tri k x.0) (length_put_new k v m)
    where
      go : Tri k x.0 → (get m k ≡ None → length (put k v m) ≡ suc (length m)) → length (put k v (x ∷ m)) ≡ suc (suc (length m))
      go (less l) ih = rw (lt-ltb k x.0 l)
      go (same e) ih = let z : Some x.1 ≡ None = rw (eq-eqb k x.0 e) at h in cc
      go (more l) ih =
          rw (le-ltb k x.0 (omega arith), ne_eqb k x.0 (λ e. omega arith))
          (ap suc (ih (rw (ne_eqb k x.0 (λ e. omega arith)) at h)))

  pub length_put_held : (k : ℕ) (v w : A) (m : Map A) → Rising m → get m k ≡ Some w → length (put k v m) ≡ length m
  length_put_held k v w [] r h = cc
  length_put_held k v w (x ∷ m) r h = go (tri k x.0) (length_put_held k v w m r.1)
    where
      go : Tri k x.0 → (get m k ≡ Some w → length (put k v m) ≡ length m) → length (put k v (x ∷ m)) ≡ suc (length m)
      go (less l) ih =
          let z : None ≡ Some w = sym (get_floor x.0 k m r.0 (omega arith)) ∙ (rw (ne_eqb k x.0 (λ e. omega arith)) at h) in
          cc
      go (same e) ih = rw (le-ltb k x.0 (omega arith), eq-eqb k x.0 e)
      go (more l) ih =
          rw (le-ltb k x.0 (omega arith), ne_eqb k x.0 (λ e. omega arith))
          (ap suc (ih (rw (ne_eqb k x.0 (λ e. omega arith)) at h)))

  pub length_put_le : (k : ℕ) (v : A) (m : Map A) → length (put k v m) ≤ suc (length m)
  length_put_le k v [] = omega arith
  length_put_le k v (x ∷ m) = go (tri k x.0) (length_put_le k v m)
    where
      go : Tri k x.0 → length (put k v m) ≤ suc (length m) → length (put k v (x ∷ m)) ≤ suc (suc (length m))
      go (less l) ih = rw (lt-ltb k x.0 l) (omega arith)
      go (same e) ih = rw (le-ltb k x.0 (omega arith), eq-eqb k x.0 e) (omega arith)
      go (more l) ih = rw (le-ltb k x.0 (omega arith), ne_eqb k x.0 (λ e. omega arith)) (omega arith)

  pub length_keep_le : (ok : ℕ → Bool) (m : Map A) → length (keep ok m) ≤ length m
  length_keep_le ok [] = omega arith
  length_keep_le ok (x ∷ m) =
      let ih = length_keep_le ok m in
      both (ok x.0) (λ e. rw e (omega arith)) (λ e. rw e (omega arith))
