-- One step of each series, and its end.
use mathlib.Core.Path.{◌≡◌, refl, sym, ap, ◌∙◌}
use mathlib.Core.List.{List, [], ◌∷◌}
use Prim.Native.Nat.{ℕ, zero, suc, ◌+◌, ◌-◌, ◌≤◌, ◌<◌}
use native.Mathlib.Nat.{lt_irrefl, zero-add, suc-add, add-suc}
use native.Mathlib.Omega.{arith}
use lib.ListN.{take, drop}
use Rattle.std.proofs.Common.{Bor, map}
use Rattle.std.proofs.lemmas.List.{reverse-append}
use Rattle.std.proofs.lemmas.List.Folds.{fold-map}
use lib.Ieee.{Float}
use Rattle.std.specs.Prelude.{fold, reverse}
use Rattle.time.specs.Float.{◌⊕◌, ◌⊖◌, ◌⊗◌, ◌⊘◌, whole, one64}
use Rattle.libm.specs.Libm.{acos_steps, sin_steps}
use Rattle.libm.specs.Enclosure.{step, run}
use Rattle.libm.proofs.Table.{row, rows, rows_last, part}

-- one step of each series by a row of the table
abbrev pub turn : Float → Float → ℕ × ℕ → Float
turn s h r = one64 ⊕ s ⊗ (whole r.0 ⊘ whole r.1) ⊗ h

abbrev pub sin_turn : Float → Float → ℕ × ℕ → Float
sin_turn a s r = one64 ⊖ a ⊗ a ⊘ whole r.1 ⊗ s

pub acos_step : (k : ℕ) (z h : Float) → 0 < k → acos_steps (k - 1) z (step k (z ⊗ z) h) ≡ acos_steps k z h
unfolding acos_steps
acos_step zero z h p = absurd (lt_irrefl 0 p)
acos_step (suc k) z h p = let pred : suc k - 1 ≡ k = omega arith in ap (λ (i : ℕ). acos_steps i z (step (suc k) (z ⊗ z) h)) pred

-- what a loop over rows that were lent gives
over_rows : (f : Float → ℕ × ℕ → Float) (h : Float) (xs : List (Bor (ℕ × ℕ))) (rs : List (ℕ × ℕ)) → map (λ (x : Bor (ℕ × ℕ)). x.now) xs ≡ rs → fold (λ h x. f h x.now) h xs ≡ fold f h rs
over_rows f h xs rs e = sym (fold-map f (λ (x : Bor (ℕ × ℕ)). x.now) h xs) ∙ ap (fold f h) e

-- from the last of n rows after j to the first
run_rows : (n j : ℕ) (s h : Float) → fold (turn s) h (reverse (rows (suc j) n)) ≡ run n j s h
unfolding run rows
run_rows zero j s h = refl
run_rows (suc n) j s h =
    let k : suc j + n ≡ j + suc n = suc-add j n ∙ sym (add-suc j n) in
    ap (λ (rs : List (ℕ × ℕ)). fold (turn s) h (reverse rs)) (rows_last (suc j) n)
    ∙ ap (fold (turn s) h) (reverse-append (rows (suc j) n) (row (suc j + n) ∷ []))
    ∙ run_rows n j s (step (suc j + n) s h)
    ∙ ap (λ (i : ℕ). run n j s (step i s h)) k

pub run_all : (n : ℕ) (z h : Float) → run n 0 (z ⊗ z) h ≡ acos_steps n z h
unfolding run acos_steps
run_all zero z h = refl
run_all (suc n) z h = run_all n z (step (0 + suc n) (z ⊗ z) h) ∙ ap (λ (k : ℕ). acos_steps n z (step k (z ⊗ z) h)) (zero-add (suc n))

-- the n rows after the first j, from the last to the first
pub run_over : (n j : ℕ) (s h : Float) (xs : List (Bor (ℕ × ℕ))) → map (λ (x : Bor (ℕ × ℕ)). x.now) xs ≡ reverse (take n (drop j (rows 1 48))) → j + n ≤ 48
    → fold (λ h x. turn s h x.now) h xs ≡ run n j s h
run_over n j s h xs e p = over_rows (turn s) h xs _ (e ∙ ap reverse (part j n 48 p)) ∙ run_rows n j s h

pub sin_over : (a : Float) (xs : List (Bor (ℕ × ℕ))) → map (λ (x : Bor (ℕ × ℕ)). x.now) xs ≡ reverse (rows 1 10) → fold (λ s x. sin_turn a s x.now) one64 xs ≡ sin_steps 10 a one64
unfolding rows sin_steps
sin_over a xs e = over_rows (sin_turn a) one64 xs _ e
