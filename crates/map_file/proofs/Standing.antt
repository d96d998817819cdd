-- Each name of a file of right form stands within the file, where its records place it.
use Prim.Native.Nat.{ℕ, zero, suc, ◌+◌, ◌≤◌}
use mathlib.Core.Path.{◌≡◌, sym, ap, subst, ◌∙◌}
use mathlib.Core.Bool.{Bool, true}
use mathlib.Core.List.{List, [], ◌∷◌, ◌++◌, map}
use native.Mathlib.Omega.{arith}
use lib.ListN.{length, take, drop, length-append, length-drop}
use lib.Seq.{drop-drop, take-append_seam, drop-append-add, drop-append_seam}
use Rattle.std.specs.Prelude.{Some, filter, slice_get}
use Rattle.std.specs.List.{enumerate_from}
use Rattle.time.proofs.Options.{Some-injective, None-ne-Some}
use Rattle.buffer.specs.Map.{all}
use Rattle.buffer.specs.Row.{concat_map}
use Rattle.buffer.proofs.Cases.{both, and_left, and_right}
use Rattle.map_file.specs.Form.{Name, Record, number_bytes, record_bytes, record_fits}
use Rattle.map_file.specs.walks.Names.{placed_from}
use Rattle.map_file.proofs.RecordWays.{record_split, pose_length}

-- a name stands at a place of some bytes
pub record Stands (bytes : List ℕ) (n : ℕ × Name) : Type 0 where
  pub is : take (length n.1) (drop n.0 bytes) ≡ n.1
  pub within : n.0 + length n.1 ≤ length bytes

abbrev pub Each : {A : Type 0} → (A → Type 0) → List A → Type 0
Each P [] = Unit {0}
Each P (x ∷ xs) = P x × Each P xs

module _ {A : Type 0} (P : A → Type 0) where
  -- of some of them, too
  pub each_passing : (test : ℕ × A → Bool) (xs : List A) (i : ℕ) → Each P xs → Each P (map (λ n. n.1) (filter test (enumerate_from i xs)))
  each_passing test [] i h = tt
  each_passing test (x ∷ xs) i h =
      both (test (i, x))
      (λ e. rw e (h.0, each_passing test xs (i + 1) h.1))
      (λ e. rw e (each_passing test xs (i + 1) h.1))

  pub each_at : (xs : List A) (k : ℕ) (x : A) → Each P xs → slice_get xs k ≡ Some x → P x
  each_at [] k x h e = absurd (None-ne-Some _ e)
  each_at (y ∷ xs) zero x h e = subst P (Some-injective _ _ e) h.0
  each_at (y ∷ xs) (suc k) x h e = each_at xs k x h.1 e

-- behind its length byte
module _ (bytes : List ℕ) (at : ℕ) (name rest : List ℕ) (e : drop at bytes ≡ length name ∷ (name ++ rest)) where
  after : (n : ℕ) → drop (suc at + n) bytes ≡ drop n (name ++ rest)
  after n =
      let q : suc at + n ≡ at + suc n = omega arith in
      ap (λ (k : ℕ). drop k bytes) q ∙ sym (drop-drop (suc n) at bytes) ∙ ap (drop (suc n)) e

  stands : Stands bytes (suc at, name)
  stands =
      let q : suc at + 0 ≡ suc at = omega arith in
      record {
        is = ap (λ (k : ℕ). take (length name) (drop k bytes)) (sym q) ∙ ap (take (length name)) (after 0) ∙ take-append_seam name rest;
        within = omega (arith, sym (length-drop at bytes) ∙ ap length e, length-append name rest);
      }

  behind : (n : ℕ) → drop (suc at + length name + n) bytes ≡ drop n rest
  behind n =
      let q : suc at + length name + n ≡ suc at + (length name + n) = omega arith in
      ap (λ (k : ℕ). drop k bytes) q ∙ after (length name + n) ∙ drop-append-add name rest n

pub all_stand : (bytes : List ℕ) (rs : List Record) (at : ℕ) → drop at bytes ≡ concat_map record_bytes rs → all record_fits rs ≡ true → Each (Stands bytes) (placed_from at rs)
all_stand bytes [] at e f = tt
all_stand bytes (r ∷ rs) at e f =
    let rest = concat_map record_bytes rs in
    let pose = concat_map (number_bytes 8) r.pose in
    let child = e ∙ record_split r rest in
    let second : ℕ = suc at + length r.child in
    let q : second + 0 ≡ second = omega arith in
    let parent = ap (λ (k : ℕ). drop k bytes) (sym q) ∙ behind bytes at r.child _ child 0 in
    let long = pose_length r (and_left (record_fits r) _ f) in
    let third : drop (suc second + length r.parent + 56) bytes ≡ rest =
    behind bytes second r.parent (pose ++ rest) parent 56 ∙ ap (λ (k : ℕ). drop k (pose ++ rest)) (sym long) ∙ drop-append_seam pose rest in
    (stands bytes at r.child _ child, (stands bytes second r.parent _ parent, all_stand bytes rs (suc second + length r.parent + 56) third (and_right (record_fits r) _ f)))
