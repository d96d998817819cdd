-- What is known of a file that has its form: the bytes behind its head are those of its records, and each record is within the limits.
use Prim.Native.Nat.{ℕ}
use mathlib.Core.Path.{◌≡◌, refl, ap}
use Rattle.std.specs.Prelude.{Option, None, Some}
use mathlib.Core.List.{List}
use lib.ListN.{drop}
use Rattle.time.specs.Reply.{answer}
use Rattle.time.proofs.Replies.{refusal_answer, answer_in}
use Rattle.buffer.specs.Row.{concat_map}
use Rattle.map_file.specs.Form.{Record, record_bytes, file_bytes, FileFits, records, formed}
use Rattle.map_file.specs.Laws.{Bytes}
use Rattle.map_file.proofs.FormBothWays.{form_both_ways}

module _ (bytes : List ℕ) (rs : List Record) (h : Bytes bytes) (e : records bytes ≡ Some rs) where
  pub file_is : bytes ≡ file_bytes rs
  file_is = ((form_both_ways bytes rs h).0 e).0

  pub file_fits : FileFits rs
  file_fits = ((form_both_ways bytes rs h).0 e).1

  pub file_left : drop 7 bytes ≡ concat_map record_bytes rs
  unfolding file_bytes
  file_left = ap (drop 7) file_is

-- ---- what is answered of the records

pub answered : {A : Type 0} (call : List Record → A) (o : Option (List Record)) (a : A) → formed o call ≡ answer a → (rs : List Record) × ((o ≡ Some rs) × (call rs ≡ a))
answered call None a e = absurd (refusal_answer e)
answered call (Some rs) a e = (rs, (refl, answer_in e))
