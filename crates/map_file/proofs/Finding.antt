-- `find` leaves an iterator behind the first item that passes a test: what is left goes on as the items that pass.
use Prim.Native.Nat.{ℕ, ◌+◌}
use mathlib.Core.Path.{◌≡◌, sym, ap, ◌∙◌, subst}
use mathlib.Core.Bool.{Bool, true, false}
use mathlib.Core.List.{List, [], ◌∷◌, map}
use native.Mathlib.Omega.{arith}
use denote.Param.Members.{Mut}
use denote.Ref.{Bor}
use lib.ListN.{length}
use Rattle.std.specs.Prelude.{Option, None, Some, option_map, filter, ⊤}
use Rattle.std.specs.declared.iter.Enumerate.{Enumerate}
use Rattle.std.specs.Fn.{CalledAt}
use Rattle.std.specs.Iterator.{Yields, YieldsThen, FindsItem, YieldsFirstBy, MakesProgress, item_count}
use Rattle.std.specs.Iterator.Adapters.{enumerate_source, enumerate_count, enumerate_steps}
use Rattle.std.specs.List.{FoldsTo, enumerate_from}

module _ {S A B F : Type 0} (steps : S → Option A → S → Type 0) (view : A → B) (rest : S → List B) (test : B → Bool) (g : Mut F (Bor A × Unit {0}) Bool) (f : F)
    (each : (s : S) (r : Option A) (t : S) → steps s r t → YieldsFirstBy view rest s r t)
    (calls : (x : A) (b : Bool) (q : F) → CalledAt g f x b q → (q ≡ f) × (b ≡ test (view x))) where
  passed_over : (xs : List A) (s t : S) (j : F) → Yields steps s xs t → FoldsTo (λ p x q. CalledAt g p x false q) f xs j
      → (filter test (rest s) ≡ filter test (rest t)) × (j ≡ f)
  passed_over [] s t j y k = (ap (λ (i : S). filter test (rest i)) y, sym k)
  passed_over (x ∷ xs) s t j y k =
      let c = calls x false k.0 k.1 in
      let r = passed_over xs y.0 t j y.2 (subst (λ (q : F). FoldsTo (λ p x q. CalledAt g p x false q) q xs j) c.0 k.2) in
      (rw (each s (Some x) y.0 y.1, sym c.1) r.0, r.1)

  pub find_passes : (r : Option A) (s u : S) → FindsItem steps g s f r u → YieldsFirstBy view (λ i. filter test (rest i)) s r u
  find_passes None s u (xs, j, y, k, h) =
      let p = passed_over xs s y.0 j y.1 k in
      let e = each y.0 None u y.2 in
      (p.0 ∙ rw e.0, rw e.1)
  find_passes (Some x) s u (xs, j, y, k, h) =
      let p = passed_over xs s y.0 j y.1 k in
      let c = calls x true h.0 (subst (λ (q : F). CalledAt g q x true h.0) p.1 h.1) in
      p.0 ∙ rw (each y.0 (Some x) u y.2, sym c.1)

-- ---- over the items of an iterator with their places

module _ {S A B : Type 0} (view : A → B) (rest : S → List B) where
  abbrev pub numbered_view : ℕ × A → ℕ × B
  numbered_view p = (p.0, view p.1)

  abbrev pub numbered_rest : Enumerate S → List (ℕ × B)
  numbered_rest s = enumerate_from (enumerate_count s) (rest (enumerate_source s))

  pub numbered_each : (s : Enumerate S) (r : Option (ℕ × A)) (t : Enumerate S) → enumerate_steps (YieldsFirstBy view rest) s r t → YieldsFirstBy numbered_view numbered_rest s r t
  numbered_each s None t h = (ap (enumerate_from (enumerate_count s)) h.0.0, ap (enumerate_from (enumerate_count t)) h.0.1)
  numbered_each s (Some p) t h = ap (enumerate_from (enumerate_count s)) h.0 ∙ (λ i. (sym h.1 i, view p.1) ∷ enumerate_from (sym h.2 i) (rest (enumerate_source t)))

  -- without the places
  pub unnumbered : (left : Enumerate S → List (ℕ × B)) (s : Enumerate S) (r : Option (ℕ × A)) (u : Enumerate S) (o : Option A) → YieldsFirstBy numbered_view left s r u → o ≡ option_map (λ p. p.1) r
      → YieldsFirstBy view (λ i. map (λ p. p.1) (left i)) s o u
  unnumbered left s None u o h e = rw e (rw h.0, rw h.1)
  unnumbered left s (Some p) u o h e = rw e (rw h)

  -- the count and what is left add up to the same
  counted : (xs : List (ℕ × A)) (s t : Enumerate S) → Yields (enumerate_steps (YieldsFirstBy view rest)) s xs t
      → enumerate_count s + length (rest (enumerate_source s)) ≡ enumerate_count t + length (rest (enumerate_source t))
  counted [] s t y = ap (λ (i : Enumerate S). enumerate_count i + length (rest (enumerate_source i))) y
  counted (x ∷ xs) s t y = omega (arith, ap length y.1.0, y.1.2, counted xs y.0 t y.2)

  pub still_counts : (xs : List (ℕ × A)) (r : Option (ℕ × A)) (s u : Enumerate S) → YieldsThen (enumerate_steps (YieldsFirstBy view rest)) s xs r u
      → enumerate_count u + length (rest (enumerate_source u)) ≡ enumerate_count s + length (rest (enumerate_source s))
  still_counts xs None s u y = omega (arith, counted xs s y.0 y.1, ap length y.2.0.0, ap length y.2.0.1, y.2.1)
  still_counts xs (Some x) s u y = omega (arith, counted xs s y.0 y.1, ap length y.2.0, y.2.2)

-- ---- what a call gives of what is left

module _ {S A B : Type 0} (view : A → B) (rest : S → List B) where
  -- it leaves fewer
  pub progress : (s : S) (r : Option A) (t : S) → YieldsFirstBy view rest s r t → MakesProgress (λ _. ⊤) (item_count rest) s r t
  progress s None t h = record { on = λ _. tt; keeps = tt; rests = λ _. tt }
  progress s (Some x) t h = record { on = λ _. (tt, tt, omega (arith, ap length h)); keeps = tt; rests = λ _. tt }
