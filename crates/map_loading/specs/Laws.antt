-- What holds of loading. Proved in proofs/ under the same names.
use Rattle.std.specs.Prelude.{ℕ, ◌≡◌, Bool, true, false, not, List, [], ◌∷◌, take, drop}
use Rattle.std.specs.Prelude.{Option, None, Some, Result}
use Rattle.time.specs.Reply.{Carried, Reply, answer, refusal, nothing}
use Rattle.time.specs.Order.{Dues, when, first_due, refused}
use Rattle.registry.specs.Tree.{Addition, holds_no_frame, member}
use Rattle.registry.specs.Store.{Store, tree_of}
use Rattle.registry.specs.Answers.{Value, done}
use Rattle.registry.specs.Calls.{add_of}
use Rattle.registry.specs.History.{run, accepted}
use Rattle.registry.specs.Order.{lent, lent_due}
use Rattle.registry.specs.Replies.{of_done, fits}
use Rattle.map_file.specs.Form.{Record, records}
use Rattle.map_loading.specs.declared.error.LoadError.{LoadError}
use Rattle.map_loading.specs.Loading.{additions, load_of, record_of, load_reply}

-- done: the file's records are added one by one, each addition answered with done, and the store is the one that they leave
pub record AddedOneByOne (s : Store) (bytes : List ℕ) : Type 0 where
  pub read : List Record
  pub form : records bytes ≡ Some read
  pub each : accepted add_of s (additions read) ≡ additions read
  pub left : (load_of s bytes).store ≡ run add_of s (additions read)

abbrev pub DoneIsAdditions : Type 0
DoneIsAdditions = (s : Store) (bytes : List ℕ) → (load_of s bytes).reply ≡ answer done → AddedOneByOne s bytes

-- record n refused: those before it are added one by one with done, it gets that refusal, and the store is as found
pub record FirstRefused (s : Store) (bytes : List ℕ) (n : ℕ) : Type 0 where
  pub read : List Record
  pub form : records bytes ≡ Some read
  pub before : accepted add_of s (take n (additions read)) ≡ take n (additions read)
  pub refused : Addition
  pub behind : List Addition
  pub at : drop n (additions read) ≡ refused ∷ behind
  pub reply : (load_of s bytes).reply ≡ (add_of (run add_of s (take n (additions read))) refused).reply
  pub as_found : (load_of s bytes).store ≡ s

abbrev pub RecordRefused : Type 0
RecordRefused = (s : Store) (bytes : List ℕ) (n : ℕ) → (load_of s bytes).record? ≡ Some n → FirstRefused s bytes n

-- every refusal leaves the store as found
abbrev pub RefusedAsFound : Type 0
RefusedAsFound = (s : Store) (bytes : List ℕ) (k : ℕ) (c : Carried) → (load_of s bytes).reply ≡ refusal k c → (load_of s bytes).store ≡ s

-- what a load replies: done, or a refusal that carries what its number lists
abbrev pub LoadRepliesFit : Type 0
LoadRepliesFit = (s : Store) (bytes : List ℕ) → fits of_done (load_of s bytes).reply ≡ true

-- a load's reply and the record's number fix its result
abbrev pub LoadInjective : Type 0
LoadInjective = (a b : Result (Unit {0}) LoadError) → record_of a ≡ record_of b → load_reply a ≡ load_reply b → a ≡ b

-- ---- "Both follow 1 and 2, with 19 first, and precede any record's own refusal."

abbrev pub load_order : List ℕ
load_order = lent (19 ∷ 18 ∷ [])

-- there is none
abbrev pub is_none : {A : Type 0} → Option A → Bool
is_none None = true
is_none (Some a) = false

-- 18: the file does not have the form; 19: the store holds a frame
unfoldable pub load_due : Store → List ℕ → Dues
load_due s bytes = lent_due s ((18, when (is_none (records bytes)) nothing) ∷ (19, when (not (holds_no_frame (tree_of s))) nothing) ∷ [])

-- the first of 1, 2, 19 and 18 that is due is answered, as no record's; where none is due, done or a record's refusal is
pub record LoadFirstDue : Type 0 where
  pub whole : (s : Store) (bytes : List ℕ) → (load_of s bytes).record? ≡ None → refused (load_of s bytes).reply ≡ first_due (load_due s bytes) load_order
  pub of_record : (s : Store) (bytes : List ℕ) (n : ℕ) → (load_of s bytes).record? ≡ Some n → first_due (load_due s bytes) load_order ≡ None

-- a record is refused with 7, 3, 4, 5, 6 or 16 alone: all are static and a row holds at least one sample, so that neither 8 nor 17 comes
abbrev pub record_refusals : List ℕ
record_refusals = 7 ∷ 3 ∷ 4 ∷ 5 ∷ 6 ∷ 16 ∷ []

pub record RefusedWith (r : Reply Value) (numbers : List ℕ) : Type 0 where
  pub number : ℕ
  pub carried : Carried
  pub is : r ≡ refusal number carried
  pub listed : member number numbers ≡ true

abbrev pub RecordRefusals : Type 0
RecordRefusals = (s : Store) (bytes : List ℕ) (n : ℕ) → (load_of s bytes).record? ≡ Some n → RefusedWith (load_of s bytes).reply record_refusals
