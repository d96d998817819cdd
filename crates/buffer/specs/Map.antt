-- A map from numbers: a list of pairs whose numbers rise strictly.
use Rattle.std.specs.Prelude.{ℕ, Bool, true, cond, ◌&&◌, List, [], ◌∷◌, map, eqb, ltb}
use Rattle.std.specs.Prelude.{Option, None, Some}

abbrev pub Map : Type 0 → Type 0
Map A = List (ℕ × A)

-- every element passes the test
abbrev pub all : {A : Type 0} → (A → Bool) → List A → Bool
all test [] = true
all test (x ∷ xs) = test x && all test xs

-- the numbers rise strictly
abbrev pub ascending : List ℕ → Bool
ascending [] = true
ascending (i ∷ is) = all (ltb i) is && ascending is

module _ {A : Type 0} where
  -- the numbers of its pairs
  abbrev pub keys : Map A → List ℕ
  keys m = map (λ x. x.0) m

  -- what stands at the number k, if anything does
  abbrev pub get : Map A → ℕ → Option A
  get [] k = None
  get (x ∷ m) k = cond (eqb k x.0) (Some x.1) (get m k)

  -- v at k: in its place, or in the place of what stood at k
  abbrev pub put : ℕ → A → Map A → Map A
  put k v [] = (k, v) ∷ []
  put k v (x ∷ m) = cond (ltb k x.0) ((k, v) ∷ x ∷ m) (cond (eqb k x.0) ((k, v) ∷ m) (x ∷ put k v m))

  -- those whose number passes the test
  abbrev pub keep : (ℕ → Bool) → Map A → Map A
  keep test [] = []
  keep test (x ∷ m) = cond (test x.0) (x ∷ keep test m) (keep test m)

  -- its numbers rise strictly
  abbrev pub rising : Map A → Bool
  rising m = ascending (keys m)
