-- What a wipe of a sound store answers and leaves: 9 and every word as it was, or the words of the tree with the child's row wiped.
use Prim.Native.Nat.{ℕ}
use mathlib.Core.Path.{◌≡◌, sym, ap, ◌∙◌}
use Rattle.time.specs.Reply.{answer, refusal, frame}
use Rattle.buffer.specs.Map.{put}
use Rattle.buffer.specs.Samples.{remove_before}
use Rattle.registry.specs.Tree.{Tree, wiped, wipe}
use Rattle.registry.specs.Store.{Store, limits_of, edge_at, tree_of, stored}
use Rattle.registry.specs.Answers.{done}
use Rattle.registry.specs.Calls.{written}
use Rattle.registry.specs.Sound.{SoundStore}
use Rattle.registry.specs.layout.Rows.{IsRow, AbsentAt, wiped_in}
use Rattle.registry.proofs.soundness.SoundStore.{sound_rows}
use Rattle.registry.proofs.layout.TreeRows.{get_found, get_absent}

pub wipe_absent : (s : Store) (f i k : ℕ) → AbsentAt s.head f k → record { reply = refusal 9 (frame f); store = s } ≡ written s (limits_of s) (wipe (tree_of s) f i)
unfolding wipe
wipe_absent s f i k absent = ap (λ o. written s (limits_of s) (wiped f i (tree_of s) o)) (sym (get_absent s f k absent))

pub wipe_held : (s : Store) → SoundStore s → (f i r : ℕ) → IsRow s.head f r
    → record { reply = answer done; store = stored (limits_of s) (wiped_in s r i) } ≡ written s (limits_of s) (wipe (tree_of s) f i)
unfolding wipe wiped_in
wipe_held s ok f i r found =
    let e = edge_at s r in
    let after : ℕ → Tree = λ c. put c (record { parent = e.parent; kind = e.kind; samples = remove_before e.kind i e.samples }) (tree_of s) in
    ap (λ (c : ℕ). record { reply = answer done; store = stored (limits_of s) (after c) }) found.child
    ∙ ap (λ o. written s (limits_of s) (wiped f i (tree_of s) o)) (sym (get_found s (sound_rows s ok).rises f r found))
