-- One induction over a list of calls of any kind, and what a call on the store of a tree is.
use mathlib.Core.Path.{◌≡◌, refl, sym, ap, ◌∙◌}
use mathlib.Core.Bool.{true, false, not}
use mathlib.Core.List.{List, [], ◌∷◌, ◌++◌, append_assoc, append-nil}
use Rattle.time.specs.Reply.{Reply, answer, refusal, nothing}
use Rattle.time.proofs.Replies.{refuse_answered}
use Rattle.buffer.proofs.Cases.{both, false_true}
use Rattle.registry.specs.Tree.{Tree, Limits}
use Rattle.registry.specs.Store.{Store, limits_of, tree_of, stored, sized}
use Rattle.registry.specs.Sound.{sound}
use Rattle.registry.specs.Calls.{Outcome, written, on_tree}
use Rattle.registry.specs.History.{is_answer, run, accepted}
use Rattle.registry.proofs.layout.StoreBack.{Fits, limits_back, tree_back}

-- ---- a list of calls

-- what one accepted call keeps, and refused ones leave alone, a whole list keeps
module _ {C : Type 0} (call : Store → C → Outcome) (Inv : Store → List C → Type 0)
    (answered : (s : Store) (cs : List C) (c : C) → Inv s cs → is_answer (call s c).reply ≡ true → Inv (call s c).store (cs ++ (c ∷ [])))
    (refused : (s : Store) (c : C) → is_answer (call s c).reply ≡ false → (call s c).store ≡ s) where
  pub run_ind : (s : Store) (cs ds : List C) → Inv s cs → Inv (run call s ds) (cs ++ accepted call s ds)
  run_ind s cs [] h = rw append-nil h
  run_ind s cs (d ∷ ds) h =
      both (is_answer (call s d).reply)
      (λ e. rw e (rw append_assoc at (run_ind (call s d).store (cs ++ (d ∷ [])) ds (answered s cs d h e))))
      (λ e. rw e (run_ind (call s d).store cs ds (rw (refused s d e) h)))

-- ---- one call

-- a refusal writes nothing
pub written_refused : (s : Store) (L : Limits) (r : Reply Tree) → is_answer (written s L r).reply ≡ false → (written s L r).store ≡ s
written_refused s L (answer t) e = absurd (false_true (sym e))
written_refused s L (refusal k c) e = refl

-- what is answered with done is the words of a tree
pub written_answered : (s : Store) (L : Limits) (r : Reply Tree) → is_answer (written s L r).reply ≡ true
    → (t : Tree) × (r ≡ answer t) × ((written s L r).store ≡ stored L t)
written_answered s L (answer t) e = (t, refl, refl)
written_answered s L (refusal k c) e = absurd (false_true e)

-- a call that is answered is the call on the store's tree
pub on_tree_lem : {A : Type 0} (s : Store) (call : Limits → Tree → Reply A) (v : A) → on_tree s call ≡ answer v → call (limits_of s) (tree_of s) ≡ answer v
unfolding on_tree
on_tree_lem s call v e = (refuse_answered (not (sound s)) 2 nothing _ v (refuse_answered (not (sized s)) 1 nothing _ v e).1).1

-- a call that writes
abbrev pub written_to : Store → (Limits → Tree → Reply Tree) → Outcome
written_to s call = written s (limits_of s) (on_tree s call)

-- answered on the store of a tree that fits, it is answered on that tree, and the tree that it answers is held afterwards
pub on_encoded : (L : Limits) (t : Tree) → Fits L t → (call : Limits → Tree → Reply Tree) → is_answer (written_to (stored L t) call).reply ≡ true
    → (u : Tree) × (call L t ≡ answer u) × ((written_to (stored L t) call).store ≡ stored L u)
on_encoded L t fits call e =
    let w = written_answered (stored L t) (limits_of (stored L t)) (on_tree (stored L t) call) e in (
      w.0,
      (λ i. call (sym (limits_back L t) i) (sym (tree_back L t fits) i)) ∙ on_tree_lem (stored L t) call w.0 w.1,
      w.2 ∙ ap (λ (M : Limits). stored M w.0) (limits_back L t),
    )
