-- The names of a file's records, where they stand.
use Prim.Native.Nat.{ℕ, suc, ◌+◌, ◌*◌, ◌≤◌}
use mathlib.Core.Path.{◌≡◌, refl, sym, ap, ◌∙◌}
use mathlib.Core.Bool.{true}
use mathlib.Core.List.{List, [], ◌∷◌, map}
use native.Mathlib.Omega.{arith}
use lib.ListN.{length, get_or}
use Rattle.std.proofs.lemmas.List.{length-map}
use Rattle.std.specs.Prelude.{None, Some, Option, is_some}
use Rattle.buffer.proofs.Cases.{false_true}
use Rattle.map_file.specs.declared.records.Records.{Records}
use Rattle.map_file.specs.Form.{Name, Record, times, record_from}
use Rattle.map_file.specs.Book.{appearances, numbered_all, position, places, book}
use Rattle.map_file.specs.Files.{value_of, records_left}
use Rattle.map_file.specs.walks.Names.{placed_from}
use Rattle.map_file.specs.walks.Books.{book_from}
use Rattle.map_file.proofs.Firsts.{names, firsts, firsts_all}
use Rattle.map_file.proofs.Steps.{times_count}

-- the place of the record behind one
abbrev behind : ℕ → Record → ℕ
behind at r = suc (suc at + length r.child) + length r.parent + 56

pub names_placed : (rs : List Record) (at : ℕ) → names (placed_from at rs) ≡ appearances rs
names_placed [] at = refl
names_placed (r ∷ rs) at = ap (λ (l : List Name). r.child ∷ r.parent ∷ l) (names_placed rs (behind at r))

starts_placed : (rs : List Record) (at : ℕ) → map (λ n. n.0) (placed_from at rs) ≡ places at rs
starts_placed [] at = refl
starts_placed (r ∷ rs) at = ap (λ (l : List ℕ). suc at ∷ suc (suc at + length r.child) ∷ l) (starts_placed rs (behind at r))

-- two to a record
pub names_twice : (rs : List Record) → length (appearances rs) ≡ 2 * length rs
names_twice [] = refl
names_twice (r ∷ rs) = omega (arith, names_twice rs)

-- the book is those that appear first
pub book_first : (rs : List Record) → firsts (placed_from 7 rs) 0 (placed_from 7 rs) ≡ book_from rs
unfolding book
book_first rs =
    firsts_all (placed_from 7 rs)
    ∙ (λ i. map (λ name. (get_or (starts_placed rs 7 i) (position name (names_placed rs 7 i)) 0, name)) (numbered_all [] (names_placed rs 7 i)))

-- as many are left as are counted
pub all_counted : (r : Records) → r.left ≡ length (records_left r)
all_counted r = go (times r.left record_from r.rest.bytes.now) refl r.formed
  where
    go : (o : Option (List Record × List ℕ)) → times r.left record_from r.rest.bytes.now ≡ o → is_some o ≡ true → r.left ≡ length (value_of o)
    go None e f = absurd (false_true f)
    go (Some x) e f = sym (times_count record_from r.left r.rest.bytes.now x.0 x.1 e)

pub few_placed : (r : Records) → length (placed_from r.rest.start (records_left r)) ≤ 2 * r.left
few_placed r =
    let rs = records_left r in
    omega (arith, sym (length-map (placed_from r.rest.start rs) (λ m. m.1)) ∙ ap length (names_placed rs r.rest.start), names_twice rs, all_counted r)
