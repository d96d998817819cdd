use Prim.Native.Nat.{ℕ}
use mathlib.Core.Path.{◌≡◌, refl, ap, sym, subst, ◌∙◌}
use mathlib.Core.List.{List, []}
use Rattle.registry.specs.Limits.{limits_by}
use Rattle.registry.specs.Tree.{Limits}
use Rattle.registry.specs.Store.{Store, limits_of, stored, sizes_fit}
use Rattle.registry.specs.Sound.{SoundStore}
use Rattle.registry.specs.Calls.{words}
use Rattle.registry.specs.layout.Rows.{head_of}
use Rattle.registry.proofs.soundness.SoundStore.{sound_sizes}
use Rattle.registry.proofs.soundness.Called.{cleared_sound}
use Rattle.registry.proofs.checked.CheckedMut.clear.Goals as goal

-- the limits stand in the head
limits_head : (s : Store) → limits_of (head_of s.head) ≡ limits_of s
unfolding limits_of
limits_head s = refl

pub overwrite-requires : goal.overwrite-requires
unfolding limits_of
overwrite-requires c =
    let checked = c.as_ref.result in
    let s = words checked.store in
    let read : limits_by c.limits-limits.result ≡ limits_of s = c.limits-limits.ensures ∙ ap (λ (h : List ℕ). limits_of (head_of h)) (c.head.ensures ∙ c.rows.ensures) ∙ limits_head s in
    sym (ap (sizes_fit c.limits-limits.result.rows c.limits-limits.result.samples) c.as_ref.ensures.words)
    ∙ ap (λ (L : Limits). sizes_fit L.rows L.capacity s) read ∙ sound_sizes s checked.sound

pub invariant_of-self : goal.invariant_of-self
invariant_of-self c =
    let checked = c.as_ref.result in
    let s = words checked.store in
    let read : limits_by c.limits-limits.result ≡ limits_of s = c.limits-limits.ensures ∙ ap (λ (h : List ℕ). limits_of (head_of h)) (c.head.ensures ∙ c.rows.ensures) ∙ limits_head s in
    record { sound = subst SoundStore (sym (c.overwrite.ensures.words ∙ ap (λ (L : Limits). stored L []) read)) (cleared_sound s checked.sound) }

pub returns-clause-words : goal.returns-clause-words
returns-clause-words c =
    let checked = c.as_ref.result in
    let s = words checked.store in
    let read : limits_by c.limits-limits.result ≡ limits_of s = c.limits-limits.ensures ∙ ap (λ (h : List ℕ). limits_of (head_of h)) (c.head.ensures ∙ c.rows.ensures) ∙ limits_head s in
    c.overwrite.ensures.words ∙ ap (λ (L : Limits). stored L []) read ∙ ap (λ (z : Store). stored (limits_of z) []) c.as_ref.ensures.words
