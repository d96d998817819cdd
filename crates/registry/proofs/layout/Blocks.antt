-- Words that are blocks of one width, tabulated, with one word repeated after them.
use Prim.Native.Nat.{ℕ, zero, suc, ◌+◌, ◌-◌, ◌*◌, ◌<◌}
use mathlib.Core.Path.{◌≡◌, sym, ap, ◌∙◌}
use mathlib.Core.List.{List, ◌++◌, append_assoc}
use native.Mathlib.Nat.{zero-mul, suc-mul, add_comm}
use native.Mathlib.Omega.{arith}
use lib.ListN.{length, take, drop, replicate, length-append, take-append-drop}
use lib.Seq.{drop-drop}
use Rattle.buffer.specs.Row.{padded, concat_map}
use Rattle.registry.specs.Store.{tabulate}

module _ {A B : Type 0} (f : A → List B) (w : ℕ) where
  -- the blocks that stand in a list, and what follows them
  pub blocks_split : (n : ℕ) (g : ℕ → A) (l : List B) → ((r : ℕ) → r < n → f (g r) ≡ take w (drop (r * w) l)) → concat_map f (tabulate n g) ++ drop (n * w) l ≡ l
  blocks_split zero g l h = rw (zero-mul w)
  blocks_split (suc n) g l h =
      let e : (r : ℕ) → suc r * w ≡ w + r * w = λ r. suc-mul r w ∙ add_comm (r * w) w in
      let first : f (g zero) ≡ take w l = h 0 (omega arith) ∙ ap (λ (k : ℕ). take w (drop k l)) (zero-mul w) in
      let rest = blocks_split n (λ r. g (suc r)) (drop w l) (λ r k. h (suc r) (omega arith) ∙ ap (λ (j : ℕ). take w (drop j l)) (e r) ∙ ap (take w) (sym (drop-drop (r * w) w l))) in
      append_assoc (f (g zero)) (concat_map f (tabulate n (λ r. g (suc r)))) (drop (suc n * w) l)
      ∙ ap (λ (m : List B). f (g zero) ++ (concat_map f (tabulate n (λ r. g (suc r))) ++ m)) (ap (λ (k : ℕ). drop k l) (e n) ∙ sym (drop-drop (n * w) w l))
      ∙ (λ i. first i ++ rest i)
      ∙ take-append-drop w l

  pub blocks_padded : (n : ℕ) (g : ℕ → A) (z : B) (l : List B) → ((r : ℕ) → r < n → f (g r) ≡ take w (drop (r * w) l))
      → drop (n * w) l ≡ replicate (length (drop (n * w) l)) z → l ≡ padded (length l) z (concat_map f (tabulate n g))
  blocks_padded n g z l h rest =
      let xs = concat_map f (tabulate n g) in
      let whole : xs ++ drop (n * w) l ≡ l = blocks_split n g l h in
      let k : length l - length xs ≡ length (drop (n * w) l) = omega (arith, ap length (sym whole) ∙ length-append xs (drop (n * w) l)) in
      sym whole ∙ ap (λ (m : List B). xs ++ m) (rest ∙ ap (λ (j : ℕ). replicate j z) (sym k))
