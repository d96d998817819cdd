-- A refused record: those before it are added one by one, it gets that refusal, and the store is as found.
use Prim.Native.Nat.{ℕ}
use mathlib.Core.Path.{◌≡◌, subst}
use Rattle.std.specs.Prelude.{Some}
use mathlib.Core.List.{List}
use native.Mathlib.Omega.{arith}
use Rattle.buffer.proofs.Cases.{none_some}
use Rattle.registry.specs.Store.{Store}
use Rattle.map_file.specs.Form.{Record, records}
use Rattle.map_loading.specs.Loading.{additions, add_all, load_of}
use Rattle.map_loading.specs.Laws.{FirstRefused, RecordRefused}
use Rattle.map_loading.proofs.AddAll.{OneRefused, one_refused}
use Rattle.map_loading.proofs.LoadCases.{Load, none_read, read, load_cases}

refused_first : (s : Store) (bytes : List ℕ) (n : ℕ) (rs : List Record) → records bytes ≡ Some rs → load_of s bytes ≡ add_all s 0 s (additions rs)
    → OneRefused s 0 s (additions rs) n → FirstRefused s bytes n
refused_first s bytes n rs form l one = record {
  read = rs;
  form = form;
  before = one.before;
  refused = one.refused;
  behind = one.behind;
  at = one.at;
  reply = rw l one.reply;
  as_found = rw l one.as_found;
}

pub record_refused : RecordRefused
record_refused s bytes n e = by (load_cases s bytes)
  where
    by : Load s bytes → FirstRefused s bytes n
    by (none_read k f q l) = absurd (none_some (rw l at e))
    by (read rs p q l) =
        let found = one_refused s 0 s (additions rs) n (rw l at e) in
        let same : found.0 ≡ n = let m = found.1 in omega arith in
        refused_first s bytes n rs p.form l (subst (λ (j : ℕ). OneRefused s 0 s (additions rs) j) same found.2)
