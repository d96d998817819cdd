-- The lowest root from a number on, and the roots one after the other.
use Rattle.std.proofs.Common.{◌++◌, map, ltb-false, ap, ◌∙◌, ◌≡◌, ℕ, suc, ◌+◌, ◌-◌, ◌^◌, ◌<◌, ◌≤◌, Bool, true, cond, ◌&&◌, ltb, leb, [], ◌∷◌, refl, arith, ltb-true, lt-ltb}
use Rattle.std.specs.Prelude.{Option, None, Some, min, fold, filter}
use Rattle.std.specs.List.{reduce}
use Rattle.buffer.specs.Map.{all}
use Rattle.buffer.proofs.Cases.{both, none_some, and_left, and_right}
use Rattle.buffer.proofs.Maps.{rising_is}
use Rattle.buffer.proofs.Alls.{all_get}
use Rattle.registry.specs.NextEdge.{told_edge}
use Rattle.registry.specs.Tree.{Edge, Tree}
use Rattle.registry.specs.Store.{Store, tree_of}
use Rattle.registry.specs.Sound.{SoundStore}
use Rattle.registry.proofs.Held.{tree_rises, parent_fits_lem}
use Rattle.console.specs.Tree.{is_root, lower, lowest_root, root_texts, roots_texts}

-- a frame that is found has 32 bits
abbrev Fits : Option ℕ → Type 0
Fits o = (f : ℕ) → o ≡ Some f → f < 2 ^ 32

lower_fits : (o : Option ℕ) (p : ℕ) → Fits o → p < 2 ^ 32 → Fits (lower o p)
lower_fits None p h l f q = let e : p ≡ f = cc in omega arith
lower_fits (Some g) p h l f q =
    let k = h g refl in
    both (ltb p g) (λ s. let e : p ≡ f = cc (rw s at q) in omega arith) (λ s. let e : g ≡ f = cc (rw s at q) in omega arith)

cond_fits : (b : Bool) (x y : Option ℕ) → Fits x → Fits y → Fits (cond b x y)
cond_fits b x y h k = both b (λ e. rw e h) (λ e. rw e k)

-- whether a frame is a root, and not below a number
abbrev pub is_root_from : Tree → ℕ → ℕ → Bool
is_root_from t from f = leb from f && is_root t f

lesser : (p g : ℕ) → cond (ltb p g) p g ≡ min g p
lesser p g = both (ltb p g) (λ e. rw e (let l = ltb-true p g e in omega arith)) (λ e. rw e (let l = ltb-false p g e in omega arith))

abbrev parent_fits : ℕ × Edge → Bool
parent_fits x = ltb x.1.parent (2 ^ 32)

lowest_of : (t : Tree) (from : ℕ) (xs : Tree) (o : Option ℕ) → Fits o → all parent_fits xs ≡ true → Fits (lowest_root t from o xs)
lowest_of t from [] o h a = h
lowest_of t from (x ∷ xs) o h a =
    let p = x.1.parent in
    lowest_of t from xs _
    (cond_fits (leb from p && is_root t p) (lower o p) o (lower_fits o p h (ltb-true p (2 ^ 32) (and_left (parent_fits x) (all parent_fits xs) a))) h)
    (and_right (parent_fits x) (all parent_fits xs) a)

-- the lowest root has 32 bits
pub lowest_fits : (s : Store) → SoundStore s → (from f : ℕ) → lowest_root (tree_of s) from None (tree_of s) ≡ Some f → f < 2 ^ 32
lowest_fits s ok from =
    let t = tree_of s in
    lowest_of t from t None (λ f q. absurd (none_some q))
    ((all_get parent_fits t ((rising_is t).0 (tree_rises s ok))).1 (λ f e q. lt-ltb e.parent (2 ^ 32) (parent_fits_lem s ok f e q)))

-- ---- the lowest root among those that the edges tell

fold_lowest : (t : Tree) (from : ℕ) (xs : Tree) (g : ℕ) → lowest_root t from (Some g) xs ≡ Some (fold min g (filter (is_root_from t from) (map (λ y. y.parent) (map told_edge xs))))
fold_lowest t from [] g = refl
fold_lowest t from (x ∷ xs) g =
    let p = x.1.parent in
    both (is_root_from t from p)
    (λ e. rw e (fold_lowest t from xs (cond (ltb p g) p g) ∙ ap (λ (h : ℕ). Some (fold min h (filter (is_root_from t from) (map (λ y. y.parent) (map told_edge xs))))) (lesser p g)))
    (λ e. rw e (fold_lowest t from xs g))

-- by the library's words
pub lowest_is : (t : Tree) (from : ℕ) (xs : Tree) → lowest_root t from None xs ≡ reduce min (filter (is_root_from t from) (map (λ y. y.parent) (map told_edge xs)))
lowest_is t from [] = refl
lowest_is t from (x ∷ xs) =
    both (is_root_from t from x.1.parent)
    (λ e. rw e (fold_lowest t from xs x.1.parent))
    (λ e. rw e (lowest_is t from xs))

-- ---- the roots from a number on, of which k are told

module _ (t : Tree) (k from : ℕ) where
  -- no more may come
  pub roots_full : 256 ≤ k → roots_texts (256 - k) t from ≡ []
  unfolding roots_texts
  roots_full l =
      let e : 256 - k ≡ 0 = omega arith in
      rw e refl

  module _ (l : k < 256) where
    one_more : 256 - k ≡ suc (256 - (k + 1))
    one_more = omega arith

    -- there is none
    pub roots_none : lowest_root t from None t ≡ None → roots_texts (256 - k) t from ≡ []
    unfolding roots_texts
    roots_none q = rw (one_more, q) refl

    -- there is one, and those behind it
    pub roots_more : (f : ℕ) → lowest_root t from None t ≡ Some f → roots_texts (256 - k) t from ≡ root_texts t f ++ roots_texts (256 - (k + 1)) t (f + 1)
    unfolding roots_texts
    roots_more f q = rw (one_more, q) refl
