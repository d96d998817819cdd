-- A store's tree has no more edges than there are children of 32 bits.
use Rattle.std.proofs.Common.{◌≡◌, ℕ, ◌+◌, ◌^◌, ◌≤◌, true, ltb, [], ◌∷◌, length, arith, ltb-true, lt-ltb}
use Rattle.buffer.specs.Map.{all}
use Rattle.buffer.proofs.Cases.{and_left, and_right}
use Rattle.buffer.proofs.Alls.{all_get}
use Rattle.buffer.proofs.Maps.{Rising, rising_is}
use Rattle.registry.specs.Tree.{Edge, Tree}
use Rattle.registry.specs.Store.{Store, tree_of}
use Rattle.registry.specs.Sound.{SoundStore}
use Rattle.registry.proofs.Held.{tree_rises, child_fits}

few : (n : ℕ) (x : ℕ × Edge) (t : Tree) → Rising (x ∷ t) → all (λ x. ltb x.0 n) (x ∷ t) ≡ true → x.0 + length (x ∷ t) ≤ n
few n x [] r a = let l = ltb-true x.0 n (and_left (ltb x.0 n) true a) in omega arith
few n x (y ∷ t) r a =
    let rest = few n y t r.1 (and_right (ltb x.0 n) (all (λ x. ltb x.0 n) (y ∷ t)) a) in
    let l = r.0.0 in
    omega arith

pub few_edges : (s : Store) → SoundStore s → length (tree_of s) ≤ 2 ^ 32
few_edges s ok = go (tree_of s) ((rising_is (tree_of s)).0 (tree_rises s ok)) ((all_get (λ x. ltb x.0 (2 ^ 32)) (tree_of s) ((rising_is (tree_of s)).0 (tree_rises s ok))).1 (λ f e q. lt-ltb f (2 ^ 32) (child_fits s ok f e q)))
  where
    go : (t : Tree) → Rising t → all (λ x. ltb x.0 (2 ^ 32)) t ≡ true → length t ≤ 2 ^ 32
    go [] r a = omega arith
    go (x ∷ t) r a = let l = few (2 ^ 32) x t r a in omega arith
