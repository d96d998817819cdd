-- The number of a name, as a search of the table finds it, and the table with one more name.
use Prim.Native.Nat.{ℕ, suc, ◌+◌}
use mathlib.Core.Path.{◌≡◌, refl, sym, ap, ◌∙◌}
use mathlib.Core.Bool.{Bool, true, false, cond}
use mathlib.Core.List.{List, [], ◌∷◌, ◌++◌, map, map-append}
use native.Mathlib.Omega.{arith}
use borrow.Author.Tests.{ltb-true, ltb-false}
use lib.Dec.{ltb}
use lib.ListN.{length, length-map}
use Rattle.std.specs.Prelude.{Option, None, Some}
use Rattle.std.proofs.Common.{Bor}
use Rattle.std.specs.List.{position_or_len}
use Rattle.std.proofs.lemmas.List.Recursion.{is_position_or_len}
use Rattle.text.specs.Reading.{same}
use Rattle.buffer.proofs.Cases.{both, none_some}
use Rattle.map_file.specs.Form.{Name}
use Rattle.map_file.specs.Book.{among, numbered, position}
use Rattle.map_loading.proofs.MapAdditions.{position_absent}
use Rattle.map_loading.proofs.NamesBound.{position_among, among_position}

-- a name that has a number
abbrev pub Known : Type 0
Known = Bor Name

-- by the bytes of each
abbrev pub bytes_of : List Known → List Name
bytes_of ns = map (λ n. n.now) ns

module _ (name : Name) (ns : List Known) (r : Option ℕ) where
  abbrev pub is_name : Known → Bool
  is_name n = same name n.now

  -- the first that has these bytes
  abbrev pub Searched : Type 0
  Searched = r ≡ cond (ltb (position_or_len is_name ns) (length ns)) (Some (position_or_len is_name ns)) None

  one_on : (x : Known) (l : List Known) → position name (bytes_of (x ∷ l)) ≡ cond (is_name x) 0 (1 + position name (bytes_of l))
  one_on x l = let e : suc (position name (bytes_of l)) ≡ 1 + position name (bytes_of l) = omega arith in ap (λ (n : ℕ). cond (is_name x) 0 n) e

  place : position name (bytes_of ns) ≡ position_or_len is_name ns
  place = is_position_or_len (λ (l : List Known). position name (bytes_of l)) is_name refl one_on ns

  count : length (bytes_of ns) ≡ length ns
  count = length-map ns (λ n. n.now)

  -- it has a number
  pub number_found : Searched → (k : ℕ) → r ≡ Some k → (k ≡ position name (bytes_of ns)) × (bytes_of ns ≡ numbered (bytes_of ns) name)
  number_found h k e =
      both (ltb (position_or_len is_name ns) (length ns))
      (λ t.
      let at : Some k ≡ Some (position_or_len is_name ns) = sym e ∙ (rw t at h) in
      let held : among name (bytes_of ns) ≡ true = position_among name (bytes_of ns) (omega (arith, ltb-true _ _ t, place, count)) in
      (cc (at, place), rw held))
      (λ t. absurd (none_some (sym (rw t at h) ∙ e)))

  -- it has none, and is given the next
  pub number_given : Searched → r ≡ None → (x : Known) → x.now ≡ name
      → (length ns ≡ position name (bytes_of ns)) × (bytes_of (ns ++ (x ∷ [])) ≡ numbered (bytes_of ns) name)
  number_given h e x named =
      both (ltb (position_or_len is_name ns) (length ns))
      (λ t. absurd (none_some (sym e ∙ (rw t at h))))
      (λ t.
      let new : among name (bytes_of ns) ≡ false =
      both (among name (bytes_of ns)) (λ a. absurd (omega (arith, ltb-false _ _ t, place, count, among_position name (bytes_of ns) a))) (λ a. a) in
      (omega (arith, count, position_absent name (bytes_of ns) new), rw new (map-append (λ n. n.now) ns (x ∷ []) ∙ ap (λ (b : Name). bytes_of ns ++ (b ∷ [])) named)))
