-- The tree that an answered wipe leaves: the child keeps its parent and kind, and a moving one its poses from the instant on.
use Prim.Native.Nat.{ℕ}
use mathlib.Core.Path.{◌≡◌, refl, sym, ◌∙◌}
use mathlib.Core.Bool.{cond, ◌&&◌}
use Rattle.std.specs.Prelude.{Option, None, Some}
use native.Mathlib.Omega.{arith}
use lib.Dec.{ltb}
use borrow.Author.Tests.{le-leb, lt-leb, ltb-true, ltb-false}
use Rattle.time.specs.Reply.{answer}
use Rattle.time.proofs.Replies.{answer_in}
use Rattle.buffer.specs.declared.kind.Kind.{Kind}
use Rattle.buffer.specs.declared.kind.Kind.TheVariants.{Static, Dynamic}
use Rattle.buffer.specs.Map.{get, put}
use Rattle.buffer.specs.Samples.{Samples, remove_before}
use Rattle.buffer.proofs.Cases.{both}
use Rattle.buffer.proofs.SampleLaws.{get_remove_before_lem}
use Rattle.registry.specs.Tree.{Edge, Tree, wiped, wipe}
use Rattle.registry.specs.AsMap.{moving}

pub record Wiped (t : Tree) (f i : ℕ) (u : Tree) : Type 0 where
  pub edge : Edge
  pub after : Edge
  pub held : get t f ≡ Some edge
  pub left : u ≡ put f after t
  pub parent : after.parent ≡ edge.parent
  pub kind : after.kind ≡ edge.kind
  pub samples : after.samples ≡ remove_before edge.kind i edge.samples
  pub poses : (j : ℕ) → get after.samples j ≡ cond (moving (Some edge.kind) && ltb j i) None (get edge.samples j)

kept_poses : (k : Kind) (i : ℕ) (m : Samples) (j : ℕ) → get (remove_before k i m) j ≡ cond (moving (Some k) && ltb j i) None (get m j)
kept_poses Static i m j = refl
kept_poses Dynamic i m j =
    get_remove_before_lem i m j
    ∙ both (ltb j i)
    (λ e. rw (e, lt-leb i j (ltb-true j i e)))
    (λ e. rw (e, le-leb i j (ltb-false j i e)))

pub wipe_accepted : (t : Tree) (f i : ℕ) (u : Tree) → wipe t f i ≡ answer u → Wiped t f i u
unfolding wipe
wipe_accepted t f i u e = by (get t f) refl e
  where
    by : (o : Option Edge) → get t f ≡ o → wiped f i t o ≡ answer u → Wiped t f i u
    by None q z = absurd (let w : ◌≡◌ {A = ℕ} 0 1 = cc z in omega arith)
    by (Some h) q z = record {
      edge = h;
      after = _;
      held = q;
      left = sym (answer_in z);
      parent = refl;
      kind = refl;
      samples = refl;
      poses = kept_poses h.kind i h.samples;
    }
