-- What the tests of 1 and 2 find, what they make of a call on a store that is lent, and that the calls which write leave a store sound.
use Prim.Native.Nat.{ℕ, ◌^◌, ◌<◌}
use mathlib.Core.Path.{◌≡◌, refl, sym, ap, subst, ◌∙◌}
use mathlib.Core.Bool.{Bool, true, false, not}
use mathlib.Core.List.{[]}
use Rattle.std.specs.Prelude.{Result}
use Rattle.std.specs.Result.{IsErrAnd}
use Rattle.time.specs.Reply.{Reply, Carried, answer, refusal, nothing, refuse, ◌then◌}
use Rattle.registry.specs.Tree.{Tree, Limits, Addition, add, wipe}
use Rattle.registry.specs.Store.{Store, limits_of, tree_of, stored, sized}
use Rattle.registry.specs.Sound.{sound, SoundStore}
use Rattle.registry.specs.declared.error.RegistryError.{RegistryError}
use Rattle.registry.specs.declared.store.Store.{Store as Lent}
use Rattle.registry.specs.declared.store.StoreMut.{StoreMut}
use Rattle.registry.specs.declared.checked.Checked.{Checked}
use Rattle.registry.specs.Answers.{Value, refusal_of, replied}
use Rattle.registry.specs.Calls.{Outcome, outcome_of, words, words_mut, written, on_tree, add_of, wipe_of}
use Rattle.registry.specs.Laws.{InRange, SoundTree}
use Rattle.registry.proofs.Errors.{passed_on, passed_written}
use Rattle.registry.proofs.layout.SizeLaws.{sized_is}
use Rattle.registry.proofs.layout.SoundIsStored.{sound_tree}
use Rattle.registry.proofs.layout.StoredIsSound.{stored_is_sound}
use Rattle.registry.proofs.soundness.Rules.{sound_is}
use Rattle.registry.proofs.soundness.OpenedIsSound.{empty_sound}
use Rattle.registry.proofs.soundness.AddKeepsSound.{add_keeps_sound}
use Rattle.registry.proofs.soundness.WipeKeepsSound.{wipe_keeps_sound}

-- the tests of the store are replied to with r
abbrev pub TestsFind : Store → Reply (Unit {0}) → Type 0
TestsFind s r = r ≡ on_tree s (λ L t. answer tt)

-- ---- from the tests

module _ (s : Store) where
  pub finds_sizes : sized s ≡ false → TestsFind s (refusal 1 nothing)
  unfolding on_tree
  finds_sizes e = sym (rw e)

  pub finds_unsound : sized s ≡ true → sound s ≡ false → TestsFind s (refusal 2 nothing)
  unfolding on_tree
  finds_unsound e f = sym (rw (e, f))

  pub finds_sound : SoundStore s → TestsFind s (answer tt)
  unfolding on_tree
  finds_sound ok = sym (rw (ok.sizes, ok.rules))

-- ---- to the calls

-- 1 and 2 come before the call
on_tree_then : {A : Type 0} (s : Store) (call : Limits → Tree → Reply A)
    → (on_tree s (λ L t. answer (tt {0})) then λ u. call (limits_of s) (tree_of s)) ≡ on_tree s call
unfolding on_tree
on_tree_then s call = go (sized s) (sound s)
  where
    go : (a b : Bool) → (refuse (not a) 1 nothing (refuse (not b) 2 nothing (answer (tt {0}))) then λ u. call (limits_of s) (tree_of s))
        ≡ refuse (not a) 1 nothing (refuse (not b) 2 nothing (call (limits_of s) (tree_of s)))
    go true true = refl
    go true false = refl
    go false b = refl

module _ (s : Store) (r : Reply (Unit {0})) (h : TestsFind s r) where
  pub called : {A : Type 0} (call : Limits → Tree → Reply A) → (r then λ u. call (limits_of s) (tree_of s)) ≡ on_tree s call
  called call = ap (λ (r : Reply (Unit {0})). r then λ u. call (limits_of s) (tree_of s)) h ∙ on_tree_then s call

  -- and the words that it leaves
  pub written_called : (call : Limits → Tree → Reply Tree)
      → written s (limits_of s) (r then λ u. call (limits_of s) (tree_of s)) ≡ written s (limits_of s) (on_tree s call)
  written_called call = ap (written s (limits_of s)) (called call)

module _ {A : Type 0} (s : Store) (call : Limits → Tree → Reply A) where
  -- a call that the tests refuse
  pub refused_call : (k : ℕ) (c : Carried) → TestsFind s (refusal k c) → refusal k c ≡ on_tree s call
  refused_call k c h = called s (refusal k c) h call

  -- one that they let through, on a store z that is the same
  pub answered_call : (r : Reply A) (z : Store) → z ≡ s → TestsFind s (answer tt) → r ≡ call (limits_of z) (tree_of z) → r ≡ on_tree s call
  answered_call r z same h e = e ∙ ap (λ (z : Store). call (limits_of z) (tree_of z)) same ∙ called s (answer tt) h call

-- one that passes the error of the tests on
pub passed_call : {A : Type 0} (told : A → Value) (s : Store) (call : Limits → Tree → Reply Value) (r : Result A RegistryError) (e : RegistryError)
    → IsErrAnd r (λ x. x ≡ e) → TestsFind s (refusal (refusal_of e).0 (refusal_of e).1) → replied told r ≡ on_tree s call
passed_call told s call r e p h = passed_on told r e p ∙ refused_call s call (refusal_of e).0 (refusal_of e).1 h

-- the same of a call that writes to m, whose words are those of the tested store z
module _ (m : StoreMut) (z : Store) (same : z ≡ words_mut m) (call : Limits → Tree → Reply Tree) where
  pub refused_write : (k : ℕ) (c : Carried) → TestsFind z (refusal k c)
      → record { reply = refusal k c; store = words_mut m } ≡ written (words_mut m) (limits_of (words_mut m)) (on_tree (words_mut m) call)
  refused_write k c h = written_called (words_mut m) (refusal k c) (h ∙ ap (λ (z : Store). on_tree z (λ L t. answer tt)) same) call

  pub passed_write : (r : Result (Unit {0}) RegistryError) (e : RegistryError) → IsErrAnd r (λ x. x ≡ e) → TestsFind z (refusal (refusal_of e).0 (refusal_of e).1)
      → outcome_of r m ≡ written (words_mut m) (limits_of (words_mut m)) (on_tree (words_mut m) call)
  passed_write r e p h = passed_written r e m p ∙ refused_write (refusal_of e).0 (refusal_of e).1 h

-- what has passed the tests is sound
pub passed_sound : (checked : Checked) (lent : Lent) (s : Store) → checked.store ≡ lent → words lent ≡ s → SoundStore s
passed_sound checked lent s same e = subst SoundStore (ap words same ∙ e) checked.sound

-- and of a sound store a call that writes is the call on its tree
module _ (s : Store) (ok : SoundStore s) (o : Outcome) where
  pub added_write : (a : Addition) → o ≡ written s (limits_of s) (add (limits_of s) (tree_of s) a) → o ≡ add_of s a
  unfolding add_of
  added_write a e = e ∙ written_called s (answer tt) (finds_sound s ok) (λ L t. add L t a)

  pub wiped_write : (f i : ℕ) → o ≡ written s (limits_of s) (wipe (tree_of s) f i) → o ≡ wipe_of s f i
  unfolding wipe_of
  wiped_write f i e = e ∙ written_called s (answer tt) (finds_sound s ok) (λ L t. wipe t f i)

-- ---- what is left is sound

module _ (s : Store) (ok : SoundStore s) where
  pub limits_in_range : InRange (limits_of s).rows (limits_of s).capacity
  unfolding limits_of
  limits_in_range = ((sized_is s).0 ok.sizes).range

  pub tree_sound : SoundTree (limits_of s) (tree_of s)
  tree_sound = sound_tree s ((sized_is s).0 ok.sizes) ((sound_is s).0 ok.rules)

  pub words_sound : (u : Tree) → SoundTree (limits_of s) u → SoundStore (stored (limits_of s) u)
  words_sound u k = let e = stored_is_sound (limits_of s) u limits_in_range k in record { sizes = e.0; rules = e.1 }

  written_sound : (r : Reply Tree) → ((u : Tree) → r ≡ answer u → SoundTree (limits_of s) u) → SoundStore (written s (limits_of s) r).store
  written_sound (answer u) k = words_sound u (k u refl)
  written_sound (refusal n c) k = ok

  pub cleared_sound : SoundStore (stored (limits_of s) [])
  cleared_sound = words_sound [] (empty_sound (limits_of s))

  pub added_sound : (a : Addition) → a.child < 2 ^ 32 → a.parent < 2 ^ 32 → SoundStore (written s (limits_of s) (add (limits_of s) (tree_of s) a)).store
  added_sound a c p = written_sound (add (limits_of s) (tree_of s) a) (λ u e. add_keeps_sound (limits_of s) (tree_of s) u a c p tree_sound e)

  pub wiped_sound : (f i : ℕ) → SoundStore (written s (limits_of s) (wipe (tree_of s) f i)).store
  wiped_sound f i = written_sound (wipe (tree_of s) f i) (λ u e. wipe_keeps_sound (limits_of s) (tree_of s) u f i tree_sound e)
