-- The path law of the calls on lent words, from that of trees.
use Prim.Native.Nat.{ℕ}
use mathlib.Core.Path.{◌≡◌, sym, ap, ◌∙◌}
use mathlib.Core.Bool.{not}
use borrow.Author.Tests.{not-false}
use Rattle.time.specs.Reply.{Reply, answer, nothing}
use Rattle.time.proofs.Replies.{refuse_answered}
use Rattle.registry.specs.Tree.{Tree, Limits, add, wipe}
use Rattle.registry.specs.Store.{Store, limits_of, tree_of, stored, sized}
use Rattle.registry.specs.Sound.{sound, SoundStore}
use Rattle.registry.specs.Answers.{done}
use Rattle.registry.specs.Calls.{on_tree, add_of, wipe_of, lookup_of, common_time_of}
use Rattle.registry.specs.History.{is_answer}
use Rattle.registry.specs.Laws.{SoundTree}
use Rattle.registry.specs.Path.{lookup, common_time}
use Rattle.registry.specs.PathLaws.{SameAnswers, SameReplies, CallsPathLaw, CallsPathLawWipe}
use Rattle.registry.proofs.histories.Runs.{written_to, written_answered, on_tree_lem}
use Rattle.registry.proofs.layout.StoreBack.{tree_back}
use Rattle.registry.proofs.soundness.SoundEdges.{sound_fits}
use Rattle.registry.proofs.soundness.Called.{finds_sound, called, limits_in_range, tree_sound, words_sound}
use Rattle.registry.proofs.soundness.AddKeepsSound.{add_keeps_sound}
use Rattle.registry.proofs.soundness.WipeKeepsSound.{wipe_keeps_sound}
use Rattle.registry.proofs.paths.PathLaw.{path_law, path_law_wipe}

-- a call that is answered found the store sound
answered_sound : {A : Type 0} (s : Store) (call : Limits → Tree → Reply A) (v : A) → on_tree s call ≡ answer v → SoundStore s
unfolding on_tree
answered_sound s call v e =
    let z = refuse_answered (not (sized s)) 1 nothing _ v e in
    let k = refuse_answered (not (sound s)) 2 nothing _ v z.1 in
    record { sizes = not-false _ z.0; rules = not-false _ k.0 }

-- the store's tree
module _ (s : Store) (h : SoundStore s) where
  -- a question of the words of a sound tree
  asked_stored : {A : Type 0} (u : Tree) → SoundTree (limits_of s) u → (ask : Tree → Reply A) → on_tree (stored (limits_of s) u) (λ L t. ask t) ≡ ask u
  asked_stored u k ask =
      let L = limits_of s in
      sym (called (stored L u) (answer tt) (finds_sound (stored L u) (words_sound s h u k)) (λ L t. ask t))
      ∙ ap ask (tree_back L u (sound_fits L u (limits_in_range s h).positive_capacity k))

  same_replies : (u : Tree) → SoundTree (limits_of s) u → (f g : ℕ) → SameAnswers (tree_of s) u f g → SameReplies s (stored (limits_of s) u) f g
  unfolding lookup_of common_time_of
  same_replies u k f g same = record {
    lookups = λ i. asked_stored u k (λ t. lookup t f g i) ∙ same.lookups i ∙ called s (answer tt) (finds_sound s h) (λ L t. lookup t f g i);
    common_times = asked_stored u k (λ t. common_time t f g) ∙ same.common_times ∙ called s (answer tt) (finds_sound s h) (λ L t. common_time t f g);
  }

-- a call that is answered with done leaves the words of the tree that it answers
pub record Done (s : Store) (call : Limits → Tree → Reply Tree) : Type 0 where
  pub tree : Tree
  pub held : SoundStore s
  pub answers : call (limits_of s) (tree_of s) ≡ answer tree
  pub left : (written_to s call).store ≡ stored (limits_of s) tree

call_done : (s : Store) (call : Limits → Tree → Reply Tree) → (written_to s call).reply ≡ answer done → Done s call
call_done s call e =
    let w = written_answered s (limits_of s) (on_tree s call) (ap is_answer e) in
    record { tree = w.0; held = answered_sound s call w.0 w.1; answers = on_tree_lem s call w.0 w.1; left = w.2 }

pub calls_path_law : CallsPathLaw
unfolding add_of
calls_path_law s a c p e f g known m off =
    let d = call_done s (λ L t. add L t a) e in
    let k = tree_sound s d.held in
    rw d.left
    (same_replies s d.held d.tree (add_keeps_sound (limits_of s) (tree_of s) d.tree a c p k d.answers) f g
    (path_law (limits_of s) (tree_of s) d.tree a k.rises k.circles d.answers f g known m off))

pub calls_path_law_wipe : CallsPathLawWipe
unfolding wipe_of
calls_path_law_wipe s c i e f g m off =
    let d = call_done s (λ L t. wipe t c i) e in
    let k = tree_sound s d.held in
    rw d.left
    (same_replies s d.held d.tree (wipe_keeps_sound (limits_of s) (tree_of s) d.tree c i k d.answers) f g
    (path_law_wipe (tree_of s) d.tree c i k.rises d.answers f g m off))
