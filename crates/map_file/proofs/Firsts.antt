-- The names that appear first, in the order of the file, are the book: by their numbers, and where they stand.
use Prim.Native.Nat.{ℕ, ◌+◌}
use mathlib.Core.Path.{◌≡◌, refl, sym, ap, ◌∙◌}
use mathlib.Core.Bool.{false, not}
use mathlib.Core.List.{List, [], ◌∷◌, ◌++◌, map, append_assoc, append-nil}
use lib.ListN.{length, get_or, take, length-append}
use lib.Seq.{take-append_seam, get_or-append_seam}
use Rattle.std.proofs.lemmas.List.{map-append, length-map}
use Rattle.std.specs.Prelude.{filter}
use Rattle.std.specs.List.{enumerate_from}
use Rattle.buffer.proofs.Cases.{both}
use Rattle.map_file.specs.Form.{Name}
use Rattle.map_file.specs.Book.{among, numbered, numbered_all, position}
use Rattle.map_file.specs.walks.Books.{appears_first}
use Rattle.map_file.proofs.BookLists.{among_numbered_all, numbered_all_append, position_behind}

abbrev pub names : List (ℕ × Name) → List Name
names ns = map (λ n. n.1) ns

module _ (all : List (ℕ × Name)) where
  -- a name, where it first stands
  abbrev pub first_at : Name → ℕ × Name
  first_at name = (get_or (map (λ n. n.0) all) (position name (names all)) 0, name)

  abbrev pub firsts : ℕ → List (ℕ × Name) → List (ℕ × Name)
  firsts i left = map (λ n. n.1) (filter (appears_first all) (enumerate_from i left))

  -- the names that are left have these numbers, behind those of the names before them
  record Numbers (before left : List (ℕ × Name)) : Type 0 where
    new : List Name
    book : numbered_all (numbered_all [] (names before)) (names left) ≡ numbered_all [] (names before) ++ new
    first : firsts (length before) left ≡ map first_at new

  -- the next name
  module _ (before : List (ℕ × Name)) (n : ℕ × Name) (left : List (ℕ × Name)) (e : all ≡ before ++ (n ∷ left)) where
    abbrev had : List Name
    had = numbered_all [] (names before)

    tested : appears_first all (length before, n) ≡ not (among n.1 (names before))
    tested = ap (λ (l : List (ℕ × Name)). not (among n.1 (names l))) (ap (take (length before)) e ∙ take-append_seam before (n ∷ left))

    known : among n.1 had ≡ among n.1 (names before)
    known = among_numbered_all n.1 [] (names before)

    with_it : numbered_all [] (names (before ++ (n ∷ []))) ≡ numbered had n.1
    with_it = ap (numbered_all []) (map-append (λ n. n.1) before (n ∷ [])) ∙ numbered_all_append [] (names before) (n.1 ∷ [])

    here : among n.1 (names before) ≡ false → first_at n.1 ≡ n
    here f =
        let at : position n.1 (names all) ≡ length before =
        ap (position n.1) (ap names e ∙ map-append (λ n. n.1) before (n ∷ left)) ∙ position_behind n.1 (names before) (names left) f ∙ length-map before (λ n. n.1) in
        let starts = ap (map (λ n. n.0)) e ∙ map-append (λ n. n.0) before (n ∷ left) in
        let place : get_or (map (λ n. n.0) all) (length before) 0 ≡ n.0 =
        ap (λ (k : ℕ). get_or (map (λ n. n.0) all) k 0) (sym (length-map before (λ n. n.0))) ∙ ap (λ (l : List ℕ). get_or l (length (map (λ n. n.0) before)) 0) starts
        ∙ get_or-append_seam (map (λ n. n.0) before) n.0 (map (λ n. n.0) left) 0 in
        λ i. ((ap (λ (k : ℕ). get_or (map (λ n. n.0) all) k 0) at ∙ place) i, n.1)

    further : Numbers (before ++ (n ∷ [])) left → Numbers before (n ∷ left)
    further next =
        let count : length (before ++ (n ∷ [])) ≡ length before + 1 = length-append before (n ∷ []) in
        let book : numbered_all (numbered had n.1) (names left) ≡ numbered had n.1 ++ next.new = rw with_it at next.book in
        let first : firsts (length before + 1) left ≡ map first_at next.new = rw count at next.first in
        both (among n.1 (names before))
        (λ t. record {
          new = next.new;
          book = let same : numbered had n.1 ≡ had = rw (known ∙ t) in book ∙ ap (λ (l : List Name). l ++ next.new) same;
          first = rw (tested, t) first;
        })
        (λ f. record {
          new = n.1 ∷ next.new;
          book = let more : numbered had n.1 ≡ had ++ (n.1 ∷ []) = rw (known ∙ f) in book ∙ ap (λ (l : List Name). l ++ next.new) more ∙ append_assoc had (n.1 ∷ []) next.new;
          first = rw (tested, f) (λ i. sym (here f) i ∷ first i);
        })

  numbers : (before left : List (ℕ × Name)) → all ≡ before ++ left → Numbers before left
  numbers before [] e = record { new = []; book = sym (append-nil _); first = refl }
  numbers before (n ∷ left) e = further before n left e (numbers (before ++ (n ∷ [])) left (e ∙ sym (append_assoc before (n ∷ []) left)))

  pub firsts_all : firsts 0 all ≡ map first_at (numbered_all [] (names all))
  firsts_all = let n = numbers [] all refl in n.first ∙ ap (map first_at) (sym n.book)
