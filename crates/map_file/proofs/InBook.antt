-- The number of a name and the name of a number, as they are found in the list of a book's names.
use Prim.Native.Nat.{ℕ, zero, suc, ◌*◌, ◌+◌, ◌≤◌}
use mathlib.Core.Path.{◌≡◌, refl, ap, ◌∙◌}
use mathlib.Core.List.{List, [], ◌∷◌, map}
use native.Mathlib.Omega.{arith}
use borrow.Author.Tests.{lt-ltb, ltb-true}
use Rattle.std.proofs.lemmas.Bool.{le-ltb, ltb-false}
use lib.Dec.{ltb}
use lib.ListN.{length, length-append}
use Rattle.std.proofs.lemmas.List.{length-map}
use Rattle.std.proofs.lemmas.Option.{slice_get-map}
use Rattle.std.specs.Prelude.{Option, None, Some, option_map, slice_get}
use Rattle.std.specs.List.{position as List·position, position_or_len}
use Rattle.time.proofs.Options.{Some-injective, None-ne-Some, Some-ne-None}
use Rattle.text.specs.Reading.{same}
use Rattle.buffer.proofs.Cases.{both}
use Rattle.map_file.specs.Form.{Name, Record}
use Rattle.map_file.specs.Book.{appearances, among, numbered, numbered_all, position, at_number, book, part_of, name_of, frame_of}
use Rattle.map_file.specs.Reads.{bytes_of, part_at}
use Rattle.map_file.specs.declared.record.Name.{Name as Placed}
use Rattle.map_file.specs.declared.records.Records.{Records}
use Rattle.map_file.specs.Files.{records_left}
use Rattle.map_file.specs.walks.Names.{placed, placed_from}
use Rattle.map_file.specs.walks.Books.{book_from}
use Rattle.map_file.proofs.Placed.{names_twice, all_counted, book_first}
use Rattle.map_file.proofs.Firsts.{firsts}

-- ---- the name of a number

at_slice : (k : ℕ) (xs : List Name) → slice_get xs k ≡ at_number k xs
at_slice k [] = refl
at_slice zero (x ∷ xs) = refl
at_slice (suc k) (x ∷ xs) = at_slice k xs

module _ (rs : List Record) where
  abbrev first_place : Name → ℕ × Name
  first_place name = ((part_of rs name).0, name)

  both_told : (r : Option Placed) (o : Option Name) → option_map placed r ≡ option_map first_place o → (option_map bytes_of r ≡ o) × (option_map part_at r ≡ option_map (part_of rs) o)
  both_told None None e = (refl, refl)
  both_told None (Some m) e = absurd (None-ne-Some _ e)
  both_told (Some n) None e = absurd (Some-ne-None _ e)
  both_told (Some n) (Some m) e =
      let p = Some-injective _ _ e in
      (ap (λ (q : ℕ × Name). Some q.1) p, ap (λ (q : ℕ × Name). Some (q.0, length q.1)) p)

  pub at_book : (k : ℕ) → slice_get (book_from rs) k ≡ option_map first_place (name_of rs k)
  at_book k = slice_get-map first_place (book rs) k ∙ ap (option_map first_place) (at_slice k (book rs))

  pub told : (r : Option Placed) (k : ℕ) → option_map placed r ≡ slice_get (book_from rs) k → (option_map bytes_of r ≡ name_of rs k) × (option_map part_at r ≡ option_map (part_of rs) (name_of rs k))
  told r k e = both_told r (name_of rs k) (e ∙ at_book k)

-- ---- the number of a name

module _ (name : Name) where
  position_first : (start : Name → ℕ) (xs : List Name) → position_or_len (λ (n : ℕ × Name). same name n.1) (map (λ m. (start m, m)) xs) ≡ position name xs
  position_first start [] = refl
  position_first start (x ∷ xs) = both (same name x) (λ e. rw e) (λ e. rw e (omega (arith, position_first start xs)))

  position_below : (xs : List Name) → ltb (position name xs) (length xs) ≡ among name xs
  position_below [] = refl
  position_below (x ∷ xs) = both (same name x) (λ e. rw e (lt-ltb 0 (suc (length xs)) (omega arith))) (λ e. rw e (shift (position name xs) (length xs) ∙ position_below xs))
    where
      shift : (a b : ℕ) → ltb (suc a) (suc b) ≡ ltb a b
      shift a b = both (ltb a b) (λ e. rw e (lt-ltb (suc a) (suc b) (omega (arith, ltb-true a b e)))) (λ e. rw e (le-ltb (suc a) (suc b) (omega (arith, ltb-false a b e))))

  pub found : (rs : List Record) → List·position (λ (n : ℕ × Name). same name n.1) (book_from rs) ≡ frame_of rs name
  found rs = rw (position_first (λ m. (part_of rs m).0) (book rs), length-map (book rs) (first_place rs), position_below (book rs))

-- ---- no more names have a number than appear

grows : (names : List Name) (x : Name) → length (numbered names x) ≤ suc (length names)
grows names x = both (among x names) (λ e. rw e (omega arith)) (λ e. rw (e, length-append names (x ∷ [])) (omega arith))

count_within : (names ns : List Name) → length (numbered_all names ns) ≤ length names + length ns
count_within names [] = omega arith
count_within names (x ∷ ns) = omega (arith, grows names x, count_within (numbered names x) ns)

pub few_firsts : (r : Records) → let ns = placed_from 7 (records_left r) in length (firsts ns 0 ns) ≤ 2 * r.left
unfolding book
few_firsts r =
    let rs = records_left r in
    omega (arith, ap length (book_first rs) ∙ length-map (book rs) (first_place rs), count_within [] (appearances rs), names_twice rs, all_counted r)
