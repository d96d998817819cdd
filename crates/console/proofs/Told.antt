-- What is told of a store: the refusal of one that is not sound, or what is told of its tree.
use Rattle.std.proofs.Common.{◌≡◌, List, [], ◌∷◌, ◌++◌, ℕ, sym, ap}
use Rattle.time.specs.Reply.{Carried, answer, refusal}
use Rattle.text.specs.Ascii.{ascii}
use Rattle.registry.specs.Tree.{Tree}
use Rattle.registry.specs.Store.{Store, tree_of}
use Rattle.registry.specs.Calls.{on_tree}
use Rattle.registry.proofs.Held.{TestsFind, called}
use Rattle.console.specs.Refusals.{refusal_texts}
use Rattle.console.specs.Edges.{told_of, told_of_store}

module _ (s : Store) where
  -- the reply of a call that answers the tree
  pub tree_refused : (k : ℕ) (c : Carried) → TestsFind s (refusal k c) → on_tree s (λ L t. answer t) ≡ refusal k c
  tree_refused k c found = sym (called s (refusal k c) found (λ L t. answer t))

  pub tree_answered : TestsFind s (answer tt) → on_tree s (λ L t. answer t) ≡ answer (tree_of s)
  tree_answered found = sym (called s (answer tt) found (λ L t. answer t))

  module _ (texts : Tree → List (List ℕ)) where
    -- not sound: the refusal on a line of its own
    pub told_refused : (k : ℕ) (c : Carried) → TestsFind s (refusal k c) → told_of_store texts s ≡ refusal_texts (refusal k c) ++ (ascii "\n" ∷ [])
    unfolding told_of_store
    told_refused k c found = ap (told_of texts) (tree_refused k c found)

    -- sound: what is told of its tree
    pub told_tree : TestsFind s (answer tt) → told_of_store texts s ≡ texts (tree_of s)
    unfolding told_of_store
    told_tree found = ap (told_of texts) (tree_answered found)
