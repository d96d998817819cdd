-- Loading a map into a store: what is answered, and every word afterwards.
use Rattle.std.specs.Prelude.{ℕ, suc, not, List, [], ◌∷◌, map}
use Rattle.std.specs.Prelude.{Option, None, Some, Result, Ok, Err}
use Rattle.time.specs.declared.stamp.Stamp.TheVariants.{Static}
use Rattle.time.specs.Reply.{Reply, answer, refusal, nothing, refuse, reply_by, ◌then◌}
use Rattle.registry.specs.Tree.{Addition, addition, holds_no_frame}
use Rattle.registry.specs.Store.{Store}
use Rattle.registry.specs.Answers.{Value, done}
use Rattle.registry.specs.Calls.{words_mut, on_tree, add_of}
use Rattle.registry.specs.declared.store.StoreMut.{StoreMut}
use Rattle.map_file.specs.Form.{Name, Record, records, formed}
use Rattle.map_file.specs.Book.{book, position}
use Rattle.map_file.specs.Reads.{pose_of_words}
use Rattle.map_loading.specs.Answers.{refusal_of}
use Rattle.map_loading.specs.declared.error.LoadError.{LoadError}
use Rattle.map_loading.specs.declared.error.LoadError.TheVariants as error

-- the reply, the number of the record whose refusal it is, if it is a record's, and the store
pub record Loading : Type 0 where
  pub record? : Option ℕ
  pub reply : Reply Value
  pub store : Store

-- ---- the additions of a map

-- "Each record is added as a static frame", its names by their numbers
abbrev pub addition_of : List Name → Record → Addition
addition_of names r = addition (position r.child names) (position r.parent names) Static (pose_of_words r.pose)

-- those of all records, in the order of the file
unfoldable pub additions : List Record → List Addition
additions rs = map (addition_of (book rs)) rs

-- ---- loading

-- by what the addition of record n replies: "The first refused record's number, counted from 0, is answered with its refusal, and the store is left as
-- found"; else the load goes on
abbrev pub unless_refused : Store → ℕ → Reply Value → Loading → Loading
unless_refused found n (answer v) next = next
unless_refused found n (refusal k c) next = record { record? = Some n; reply = refusal k c; store = found }

-- the additions of record n and of those behind it, one by one
abbrev pub add_all : Store → ℕ → Store → List Addition → Loading
add_all found n s [] = record { record? = None; reply = answer done; store = s }
add_all found n s (a ∷ more) = unless_refused found n (add_of s a).reply (add_all found (suc n) (add_of s a).store more)

-- the records are added, or nothing is where one of 1, 2, 19 and 18 is due
abbrev pub load_into : Store → Reply (List Addition) → Loading
load_into s (answer xs) = add_all s 0 s xs
load_into s (refusal k c) = record { record? = None; reply = refusal k c; store = s }

-- 1 and 2, then 19: "The store must hold no frame", then 18, then the records: "Both follow 1 and 2, with 19 first, and precede any record's own refusal"
unfoldable pub load_of : Store → List ℕ → Loading
load_of s bytes = load_into s (on_tree s (λ L t. refuse (not (holds_no_frame t)) 19 nothing (formed (records bytes) additions)))

-- ---- what the code's result says

-- the number of the record whose refusal it is, if it is a record's
abbrev pub record_of : Result (Unit {0}) LoadError → Option ℕ
record_of (Ok u) = None
record_of (Err (error.Store e)) = None
record_of (Err error.StoreInUse) = None
record_of (Err error.MapForm) = None
record_of (Err (error.Record n e)) = Some n

-- the reply
abbrev pub load_reply : Result (Unit {0}) LoadError → Reply Value
load_reply r = reply_by refusal_of r then λ u. answer done

-- both, and every word afterwards
abbrev pub loading : Result (Unit {0}) LoadError → StoreMut → Loading
loading r s = record { record? = record_of r; reply = load_reply r; store = words_mut s }
