-- What the writing of a header with zeros after it leaves: the words of the tree that holds nothing.
use Prim.Native.Nat.{ℕ, suc, ◌*◌}
use mathlib.Core.Path.{◌≡◌, ◌∙◌}
use mathlib.Core.Bool.{true}
use mathlib.Core.List.{List, []}
use native.Mathlib.Nat.{add_comm, sub-zero}
use native.Mathlib.Numerals.{add_five}
use lib.ListN.{length, replicate}
use lib.Ieee.{Float}
use Rattle.time.specs.Float.{zero64}
use Rattle.registry.specs.Tree.{Limits}
use Rattle.registry.specs.Store.{encode, with_header, stored, sizes_fit}
use Rattle.registry.specs.Calls.{store_of}
use Rattle.registry.proofs.layout.SizeLaws.{sizes_fit_is}

pub opened_words : (h i : List ℕ) (p : List Float) (L : Limits) → sizes_fit L.rows L.capacity (store_of h i p) ≡ true
    → store_of (with_header L 0 (replicate (length h) 0)) (replicate (length i) 0) (replicate (length p) zero64) ≡ stored L []
unfolding stored encode
opened_words h i p L fit =
    let z = (sizes_fit_is L.rows L.capacity (store_of h i p)).0 fit in
    let words : length h ≡ suc (suc (suc (suc (suc (4 * L.rows))))) = z.head ∙ add_comm 5 (4 * L.rows) ∙ add_five (4 * L.rows) in
    rw (words, z.instants, z.poses, sub-zero (4 * L.rows), sub-zero (L.rows * L.capacity), sub-zero (7 * (L.rows * L.capacity)))
