use Rattle.std.proofs.Common.{◌≡◌, ◌<◌, ◌≤◌, ℕ, List, refl, ap, ◌∙◌, rules, arith, length, take}
use lib.ListN.{length-map}
use lib.Seq.{length-take-le}
use borrow.Author.Tests.{tests}
use Rattle.std.proofs.lemmas.List.{take_more_set}
use Rattle.std.proofs.lemmas.Iterator.{YieldsList-from_slice}
use Rattle.std.proofs.lemmas.Iterator.Search.{position_from_yields_List}
use Rattle.map_file.proofs.BookSame.{same_eq}
use Rattle.map_loading.proofs.NumberFound.{Known, bytes_of, is_name, Searched, number_found, number_given}
use Rattle.map_loading.proofs.names.NumberedNames.number.Goals as goal

-- how many there are of a table's first u
counted : (table : List Known) (u : ℕ) → length table ≡ 514 → u ≤ 514 → length (bytes_of (take u table)) ≡ u
counted table u l f = length-map (take u table) (λ n. n.now) ∙ length-take-le u table (omega (arith, l, f))

pub bounds-table-count : goal.bounds-table-count
bounds-table-count c = let s = c.args.self.now in omega (arith, c.requires, counted s.table.now s.count s.whole s.few)

pub invariant_of-self-in-None : goal.invariant_of-self-in-None
invariant_of-self-in-None c = let s = c.args.self.now in record {
  whole = search rules ∙ s.whole;
  few = omega (arith, c.requires, counted s.table.now s.count s.whole s.few);
}

pub returns-in-Some-clause-number : goal.returns-in-Some-clause-number
returns-in-Some-clause-number c =
    let a = c.args in
    let ns = take a.self.now.count a.self.now.table.now in
    let searched : Searched a.name.now ns c.position.result = position_from_yields_List (is_name a.name.now ns c.position.result) _ _ _ c.position.ensures.ran (YieldsList-from_slice ns c.iter.ensures.rest) (λ x b q k. search (rules, tests, same_eq)) in
    (number_found a.name.now ns c.position.result searched _ c.in-Some.is).0

pub returns-in-Some-clause-names : goal.returns-in-Some-clause-names
returns-in-Some-clause-names c =
    let a = c.args in
    let ns = take a.self.now.count a.self.now.table.now in
    let searched : Searched a.name.now ns c.position.result = position_from_yields_List (is_name a.name.now ns c.position.result) _ _ _ c.position.ensures.ran (YieldsList-from_slice ns c.iter.ensures.rest) (λ x b q k. search (rules, tests, same_eq)) in
    (number_found a.name.now ns c.position.result searched _ c.in-Some.is).1

pub returns-in-None-clause-number : goal.returns-in-None-clause-number
returns-in-None-clause-number c =
    let a = c.args in
    let s = a.self.now in
    let ns = take s.count s.table.now in
    let searched : Searched a.name.now ns c.position.result = position_from_yields_List (is_name a.name.now ns c.position.result) _ _ _ c.position.ensures.ran (YieldsList-from_slice ns c.iter.ensures.rest) (λ x b q k. search (rules, tests, same_eq)) in
    let given = number_given a.name.now ns c.position.result searched c.in-None.is a.name refl in
    omega (arith, given.0, counted s.table.now s.count s.whole s.few, length-map ns (λ n. n.now))

pub returns-in-None-clause-names : goal.returns-in-None-clause-names
returns-in-None-clause-names c =
    let a = c.args in
    let s = a.self.now in
    let ns = take s.count s.table.now in
    let searched : Searched a.name.now ns c.position.result = position_from_yields_List (is_name a.name.now ns c.position.result) _ _ _ c.position.ensures.ran (YieldsList-from_slice ns c.iter.ensures.rest) (λ x b q k. search (rules, tests, same_eq)) in
    let given = number_given a.name.now ns c.position.result searched c.in-None.is a.name refl in
    let few : s.count < length s.table.now = omega (arith, c.requires, s.whole, counted s.table.now s.count s.whole s.few) in
    ap bytes_of (take_more_set s.table.now s.count a.name few) ∙ given.1
