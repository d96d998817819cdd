-- What stands before the first of a byte and behind it, by the place of that byte. Assumes nothing.
use Rattle.std.proofs.Common.{◌≡◌, refl, ap, sym, ◌∙◌, Bool, true, false, cond, ℕ, suc, ◌+◌, ◌-◌, ◌≤◌, ◌<◌, List, [], ◌∷◌, length, take, drop, length-drop, arith}
use Rattle.std.specs.Prelude.{Option, None, Some, not}
use Rattle.std.specs.List.{position, position_or_len}
use borrow.Author.Tests.{ltb-true, ltb-false}
use native.Mathlib.Nat.{le_of_eq}
use lib.Dec.{eqb, ltb}
use lib.Seq.{take_all}
use Rattle.text.specs.Decimal.{before, behind}

-- from a place on to the end
pub part_to_end : (l : List ℕ) (i : ℕ) → take (length l - i) (drop i l) ≡ drop i l
part_to_end l i = take_all (length l - i) (drop i l) (le_of_eq (length-drop i l))

one : (n : ℕ) → suc n ≡ 1 + n
one n = omega arith

module _ (b : ℕ) where
  abbrev place : List ℕ → ℕ
  place = position_or_len (λ (c : ℕ). eqb c b)

  taken : (w : List ℕ) → before b w ≡ take (place w) w
  taken [] = refl
  taken (c ∷ w) = go (eqb c b) (taken w)
    where
      go : (t : Bool) → before b w ≡ take (place w) w → cond t [] (c ∷ before b w) ≡ take (cond (not t) (1 + place w) 0) (c ∷ w)
      go true h = refl
      go false h = ap (λ (l : List ℕ). c ∷ l) h ∙ ap (λ (n : ℕ). take n (c ∷ w)) (one (place w))

  rest : (w : List ℕ) → place w < length w → behind b w ≡ Some (drop (suc (place w)) w)
  rest [] h = absurd (omega arith)
  rest (c ∷ w) h = go (eqb c b) (rest w) h
    where
      go : (t : Bool) → (place w < length w → behind b w ≡ Some (drop (suc (place w)) w)) → cond (not t) (1 + place w) 0 < suc (length w)
          → cond t (Some w) (behind b w) ≡ Some (drop (suc (cond (not t) (1 + place w) 0)) (c ∷ w))
      go true r h = refl
      go false r h = r (omega arith) ∙ ap (λ (n : ℕ). Some (drop n w)) (one (place w))

  no_rest : (w : List ℕ) → length w ≤ place w → behind b w ≡ None
  no_rest [] h = refl
  no_rest (c ∷ w) h = go (eqb c b) (no_rest w) h
    where
      go : (t : Bool) → (length w ≤ place w → behind b w ≡ None) → suc (length w) ≤ cond (not t) (1 + place w) 0 → cond t (Some w) (behind b w) ≡ None
      go true r h = absurd (omega arith)
      go false r h = r (omega arith)

  -- by the place that `position` gives
  abbrev pub front : Option ℕ → List ℕ → List ℕ
  front None w = w
  front (Some i) w = take i w

  abbrev pub back : Option ℕ → List ℕ → Option (List ℕ)
  back None w = None
  back (Some i) w = Some (take (length w - (i + 1)) (drop (i + 1) w))

  pub before_place : (w : List ℕ) → before b w ≡ front (position (λ (c : ℕ). eqb c b) w) w
  before_place w = taken w ∙ go (ltb (place w) (length w)) refl
    where
      go : (t : Bool) → ltb (place w) (length w) ≡ t → take (place w) w ≡ front (cond t (Some (place w)) None) w
      go true t = refl
      go false t = take_all (place w) w (ltb-false (place w) (length w) t)

  pub behind_place : (w : List ℕ) → behind b w ≡ back (position (λ (c : ℕ). eqb c b) w) w
  behind_place w = go (ltb (place w) (length w)) refl
    where
      next : place w + 1 ≡ suc (place w)
      next = omega arith

      go : (t : Bool) → ltb (place w) (length w) ≡ t → behind b w ≡ back (cond t (Some (place w)) None) w
      go true t = rest w (ltb-true (place w) (length w) t) ∙ ap Some (ap (λ (k : ℕ). drop k w) (sym next) ∙ sym (part_to_end w (place w + 1)))
      go false t = no_rest w (ltb-false (place w) (length w) t)
