-- What a load replies: done, or a refusal that carries what its number lists.
use Prim.Native.Nat.{ℕ, suc}
use mathlib.Core.Path.{◌≡◌, refl}
use mathlib.Core.Bool.{true}
use mathlib.Core.List.{List, [], ◌∷◌}
use Rattle.time.specs.Reply.{Reply, answer, refusal}
use Rattle.registry.specs.Tree.{Addition}
use Rattle.registry.specs.Store.{Store}
use Rattle.registry.specs.Answers.{Value}
use Rattle.registry.specs.Calls.{add_of}
use Rattle.registry.specs.Replies.{of_done, fits}
use Rattle.registry.proofs.Replies.{replies_fit}
use Rattle.map_loading.specs.Loading.{Loading, additions, unless_refused, add_all, load_of}
use Rattle.map_loading.specs.Laws.{LoadRepliesFit}
use Rattle.map_loading.proofs.LoadCases.{Load, none_read, read, load_cases}

abbrev Fit : Loading → Type 0
Fit r = fits of_done r.reply ≡ true

unless_fits : (found : Store) (n : ℕ) (r : Reply Value) (next : Loading) → fits of_done r ≡ true → Fit next → Fit (unless_refused found n r next)
unless_fits found n (answer v) next h g = g
unless_fits found n (refusal k c) next h g = h

all_fit : (found : Store) (n : ℕ) (s : Store) (xs : List Addition) → Fit (add_all found n s xs)
all_fit found n s [] = refl
all_fit found n s (a ∷ xs) = unless_fits found n (add_of s a).reply _ (replies_fit.adds s a) (all_fit found (suc n) (add_of s a).store xs)

pub load_replies_fit : LoadRepliesFit
load_replies_fit s bytes = by (load_cases s bytes)
  where
    by : Load s bytes → Fit (load_of s bytes)
    by (none_read k f q l) = rw l f
    by (read rs p q l) = rw l (all_fit s 0 s (additions rs))
