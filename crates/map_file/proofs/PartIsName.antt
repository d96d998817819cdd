-- The part of the file that is answered for a number lies within the file, and its bytes are the name.
use Prim.Native.Nat.{ℕ}
use mathlib.Core.Path.{◌≡◌, refl, sym, ap, subst, ◌∙◌}
use mathlib.Core.List.{List}
use native.Mathlib.Omega.{arith}
use lib.ListN.{length, take, drop}
use Rattle.std.specs.Prelude.{Option, None, Some, option_map}
use Rattle.time.specs.Reply.{answer}
use Rattle.time.proofs.Options.{Some-injective, None-ne-Some}
use Rattle.map_file.specs.Form.{Name, Record, records, formed}
use Rattle.map_file.specs.Book.{name_of, part_of, name_in, part_in}
use Rattle.map_file.specs.Laws.{Bytes, IsName, PartIsName}
use Rattle.map_file.specs.walks.Names.{placed_from}
use Rattle.map_file.specs.walks.Books.{appears_first, book_from}
use Rattle.map_file.proofs.FileBytes.{file_left, file_fits, answered}
use Rattle.map_file.proofs.Placed.{book_first}
use Rattle.map_file.proofs.InBook.{at_book}
use Rattle.map_file.proofs.Standing.{Stands, Each, each_passing, each_at, all_stand}

module _ (bytes : List ℕ) (h : Bytes bytes) (k start count : ℕ) (rs : List Record) (f : records bytes ≡ Some rs) where
  each_stands : Each (Stands bytes) (book_from rs)
  each_stands =
      subst (Each (Stands bytes)) (book_first rs)
      (each_passing (Stands bytes) (appears_first (placed_from 7 rs)) (placed_from 7 rs) 0 (all_stand bytes rs 7 (file_left bytes rs h f) (file_fits bytes rs h f).each))

  part : (o : Option Name) → name_of rs k ≡ o → option_map (part_of rs) o ≡ Some (start, count) → IsName bytes k start count
  unfolding name_in
  part None n p = absurd (None-ne-Some _ p)
  part (Some name) n p =
      let s = each_at (Stands bytes) (book_from rs) k ((part_of rs name).0, name) each_stands (at_book rs k ∙ ap (option_map (λ m. ((part_of rs m).0, m))) n) in
      let q = Some-injective _ _ p in
      let place : (part_of rs name).0 ≡ start = ap (λ (p : ℕ × ℕ). p.0) q in
      let long : length name ≡ count = ap (λ (p : ℕ × ℕ). p.1) q in
      record {
        within = omega (arith, s.within);
        name = ap (λ (o : Option (List Record)). formed o (λ rs. name_of rs k)) f ∙ ap answer n ∙ ap (λ (m : Name). answer (Some m)) (sym s.is ∙ (λ i. take (long i) (drop (place i) bytes)));
      }

pub part_is_name : PartIsName
unfolding part_in
part_is_name bytes k start count h e =
    let r = answered (λ rs. option_map (part_of rs) (name_of rs k)) (records bytes) (Some (start, count)) e in
    part bytes h k start count r.0 r.1.0 (name_of r.0 k) refl r.1.1
