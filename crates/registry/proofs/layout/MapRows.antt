-- A rising map by the capacity of its pairs: where `get` finds a number, and where `put` puts it.
use Prim.Native.Nat.{ℕ, zero, suc, ◌≤◌, ◌<◌}
use mathlib.Core.Path.{◌≡◌, refl, sym, ap}
use mathlib.Core.Logic.{◌↔◌}
use Rattle.std.specs.Prelude.{None, Some}
use mathlib.Core.List.{[], ◌∷◌, ◌++◌}
use native.Mathlib.Omega.{arith}
use lib.ListN.{length, get_or, set, take, drop}
use lib.Dec.{eqb}
use borrow.Author.Tests.{lt-ltb, le-ltb, eq-eqb, ne_eqb, eqb-true}
use Rattle.buffer.specs.Map.{Map, get, put}
use Rattle.buffer.proofs.Cases.{both, none_some}
use Rattle.buffer.proofs.Maps.{Floor, Rising}

-- d stands for a pair that is not there
module _ {A : Type 0} (d : ℕ × A) where
  -- the number at place r
  abbrev pub key : Map A → ℕ → ℕ
  key m r = (get_or m r d).0

  abbrev pub KeysRise : Map A → Type 0
  KeysRise m = (j k : ℕ) → j < k → k < length m → key m j < key m k

  floor_at : (f : ℕ) (m : Map A) → Floor f m → (j : ℕ) → j < length m → f < key m j
  floor_at f [] g j l = absurd (omega arith)
  floor_at f (x ∷ m) g zero l = g.0
  floor_at f (x ∷ m) g (suc j) l = floor_at f m g.1 j (omega arith)

  at_floor : (f : ℕ) (m : Map A) → ((j : ℕ) → j < length m → f < key m j) → Floor f m
  at_floor f [] h = tt
  at_floor f (x ∷ m) h = (h 0 (omega arith), at_floor f m (λ j l. h (suc j) (omega arith)))

  rising_keys : (m : Map A) → Rising m → KeysRise m
  rising_keys [] r j k l u = absurd (omega arith)
  rising_keys (x ∷ m) r j zero l u = absurd (omega arith)
  rising_keys (x ∷ m) r zero (suc k) l u = floor_at x.0 m r.0 k (omega arith)
  rising_keys (x ∷ m) r (suc j) (suc k) l u = rising_keys m r.1 j k (omega arith) (omega arith)

  keys_rising : (m : Map A) → KeysRise m → Rising m
  keys_rising [] h = tt
  keys_rising (x ∷ m) h = (
    at_floor x.0 m (λ j l. h 0 (suc j) (omega arith) (omega arith)),
    keys_rising m (λ j k l u. h (suc j) (suc k) (omega arith) (omega arith)),
  )

  pub rising_by_keys : (m : Map A) → Rising m ↔ KeysRise m
  rising_by_keys m = (rising_keys m, keys_rising m)

  -- ---- a number that stands at place r

  pub get_at : (m : Map A) → Rising m → (f r : ℕ) → r < length m → key m r ≡ f → get m f ≡ Some (get_or m r d).1
  get_at [] s f r l e = absurd (omega arith)
  get_at (x ∷ m) s f zero l e = rw (eq-eqb f x.0 (sym e))
  get_at (x ∷ m) s f (suc r) l e =
      let g = floor_at x.0 m s.0 r (omega arith) in
      rw (ne_eqb f x.0 (λ q. omega arith)) (get_at m s.1 f r (omega arith) e)

  pub get_place : (m : Map A) (f : ℕ) (v : A) → get m f ≡ Some v → (r : ℕ) × (r < length m) × (key m r ≡ f)
  get_place [] f v q = absurd (none_some q)
  get_place (x ∷ m) f v q =
      both (eqb f x.0)
      (λ e. (0, omega arith, sym (eqb-true f x.0 e)))
      (λ e. let z = get_place m f v (rw e at q) in let u = z.1 in (suc z.0, omega arith, z.2))

  pub put_at : (m : Map A) → Rising m → (f r : ℕ) (v : A) → r < length m → key m r ≡ f → put f v m ≡ set m r (f, v)
  put_at [] s f r v l e = absurd (omega arith)
  put_at (x ∷ m) s f zero v l e = rw (le-ltb f x.0 (omega arith), eq-eqb f x.0 (sym e))
  put_at (x ∷ m) s f (suc r) v l e =
      let g = floor_at x.0 m s.0 r (omega arith) in
      rw (le-ltb f x.0 (omega arith), ne_eqb f x.0 (λ q. omega arith))
      (ap {B = Map A} (λ y. x ∷ y) (put_at m s.1 f r v (omega arith) e))

  -- ---- a number that stands nowhere, and would stand at place k

  pub record Gap (m : Map A) (f k : ℕ) : Type 0 where
    pub within : k ≤ length m
    pub below : (j : ℕ) → j < k → key m j < f
    pub above : (j : ℕ) → k ≤ j → j < length m → f < key m j

  gap_tail : (x : ℕ × A) (m : Map A) (f k : ℕ) → Gap (x ∷ m) f (suc k) → Gap m f k
  gap_tail x m f k g = record {
    within = let w = g.within in omega arith;
    below = λ j l. g.below (suc j) (omega arith);
    above = λ j p l. g.above (suc j) (omega arith) (omega arith);
  }

  gap_end : (x : ℕ × A) (m : Map A) (f : ℕ) → Gap (x ∷ m) f 0 → Gap m f 0
  gap_end x m f g = record {
    within = omega arith;
    below = λ j l. absurd (omega arith);
    above = λ j p l. g.above (suc j) (omega arith) (omega arith);
  }

  pub get_gap : (m : Map A) (f k : ℕ) → Gap m f k → get m f ≡ None
  get_gap [] f k g = refl
  get_gap (x ∷ m) f zero g =
      let u = g.above 0 (omega arith) (omega arith) in
      rw (ne_eqb f x.0 (λ q. omega arith)) (get_gap m f 0 (gap_end x m f g))
  get_gap (x ∷ m) f (suc k) g =
      let u = g.below 0 (omega arith) in
      rw (ne_eqb f x.0 (λ q. omega arith)) (get_gap m f k (gap_tail x m f k g))

  pub put_gap : (m : Map A) (f k : ℕ) (v : A) → Gap m f k → put f v m ≡ take k m ++ (f, v) ∷ drop k m
  put_gap [] f zero v g = refl
  put_gap [] f (suc k) v g = absurd (let w = g.within in omega arith)
  put_gap (x ∷ m) f zero v g = rw (lt-ltb f x.0 (g.above 0 (omega arith) (omega arith)))
  put_gap (x ∷ m) f (suc k) v g =
      let u = g.below 0 (omega arith) in
      rw (le-ltb f x.0 (omega arith), ne_eqb f x.0 (λ q. omega arith))
      (ap {B = Map A} (λ y. x ∷ y) (put_gap m f k v (gap_tail x m f k g)))
