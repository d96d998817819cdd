-- An opening answered with done leaves a sound store of the named sizes and age, with no row used.
use Prim.Native.Nat.{ℕ, zero-le}
use mathlib.Core.Path.{◌≡◌, refl}
use mathlib.Core.List.{[]}
use native.Mathlib.Omega.{arith}
use Rattle.time.specs.Reply.{answer, refusal, nothing}
use Rattle.buffer.proofs.Cases.{both}
use Rattle.registry.specs.Tree.{Limits}
use Rattle.registry.specs.Store.{encode, stored, sizes_fit}
use Rattle.registry.specs.Sound.{no_circle}
use Rattle.registry.specs.Answers.{done}
use Rattle.registry.specs.Calls.{open_of}
use Rattle.registry.specs.Laws.{InRange, SoundTree, FreshStore, OpenedIsSound}
use Rattle.registry.proofs.layout.StoreBack.{limits_back}
use Rattle.registry.proofs.layout.SizeLaws.{sizes_fit_is}
use Rattle.registry.proofs.layout.StoredIsSound.{stored_sized, stored_sound}

pub empty_sound : (L : Limits) → SoundTree L []
unfolding no_circle
empty_sound L = record { few = zero-le; rises = refl; frames = refl; parents = refl; circles = refl; instants = refl; poses = refl }

stored_fresh : (L : Limits) → InRange L.rows L.capacity → FreshStore L (stored L [])
unfolding stored encode
stored_fresh L range = record {
  sizes = stored_sized L [] range (empty_sound L);
  rules = stored_sound L [] range (empty_sound L);
  named = limits_back L [];
  unused = refl;
}

pub opened_is_sound : OpenedIsSound
unfolding open_of
opened_is_sound s L e =
    both (sizes_fit L.rows L.capacity s)
    (λ fit. rw fit (stored_fresh L ((sizes_fit_is L.rows L.capacity s).0 fit).range))
    (λ fit. absurd (refused (rw fit at e)))
  where
    refused : refusal 1 nothing ≡ answer done → ⊥
    refused z = let w : ◌≡◌ {A = ℕ} 0 1 = cc in omega arith
