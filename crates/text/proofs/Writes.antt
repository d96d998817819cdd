-- One text written by a writer: with room for it, and without. Assumes nothing.
use Rattle.std.proofs.Common.{◌≡◌, ℕ, ◌+◌, ◌≤◌, Bool, true, false, cond, leb, List, [], ◌∷◌, ◌++◌, length, take, drop, refl, sym, ap, ◌∙◌, append_assoc}
use Rattle.std.proofs.lemmas.List.{drop-drop}
use lib.Seq.{sets, sets-eq}
use borrow.Rule.Slice.PartMut.{put_mid}
use borrow.Author.Tests.{leb-true}
use Rattle.text.specs.Writing.{written, written_all}

module _ (out text : List ℕ) (at : ℕ) where
  abbrev In : List ℕ → Type 0
  In l = written_all out at (text ∷ []) ≡ cond (leb (at + length text) (length out)) (at + length text, l) (at, out)

  -- copied to its place
  pub copied : In (put_mid at (length text) out text)
  unfolding written written_all
  copied = ap (λ (l : List ℕ). cond (leb (at + length text) (length out)) (at + length text, l) (at, out)) there
    where
      there : take at out ++ text ++ drop (at + length text) out ≡ put_mid at (length text) out text
      there = append_assoc (take at out) text (drop (at + length text) out) ∙ ap (λ (l : List ℕ). take at out ++ (text ++ l)) (sym (drop-drop (length text) at out))

  -- stored one by one
  pub stored : In (sets out at text)
  unfolding written written_all
  stored = go (leb (at + length text) (length out)) (leb-true (at + length text) (length out))
    where
      go : (t : Bool) → (t ≡ true → at + length text ≤ length out)
          → ◌≡◌ {A = ℕ × List ℕ} (cond t (at + length text, take at out ++ text ++ drop (at + length text) out) (at, out)) (cond t (at + length text, sets out at text) (at, out))
      go true h = ap (λ (l : List ℕ). (at + length text, l)) (sym (sets-eq text out at (h refl)))
      go false h = refl
