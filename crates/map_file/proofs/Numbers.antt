-- The number that bytes are, little-endian, and the bytes of a number. Assumes nothing.
use Prim.Native.Nat.{ℕ, zero, suc, ◌+◌, ◌*◌, ◌/◌, ◌%◌, ◌^◌, ◌<◌}
use mathlib.Core.Path.{◌≡◌, refl, ap}
use mathlib.Core.List.{List, [], ◌∷◌}
use native.Mathlib.Nat.{pow-suc}
use native.Mathlib.Omega.{arith}
use lib.ListN.{length}
use Rattle.map_file.specs.Form.{number, number_bytes}
use Rattle.map_file.specs.Laws.{Bytes}
use Rattle.map_file.proofs.ByteLists.{bytes_head, bytes_tail}

-- a number below 256^k with a byte in front is below 256^(k+1)
below_more : (k b n : ℕ) → b < 256 → n < 256 ^ k → b + 256 * n < 256 ^ suc k
below_more k b n h g = rw (pow-suc 256 k) (omega arith)

pub number_below : (bytes : List ℕ) → Bytes bytes → number bytes < 256 ^ length bytes
number_below [] h = omega arith
number_below (b ∷ bytes) h = below_more (length bytes) b (number bytes) (bytes_head b bytes h) (number_below bytes (bytes_tail b bytes h))

-- ---- back and forth

pub length_bytes : (k n : ℕ) → length (number_bytes k n) ≡ k
length_bytes zero n = refl
length_bytes (suc k) n = ap suc (length_bytes k (n / 256))

pub number_back_lem : (k n : ℕ) → n < 256 ^ k → number (number_bytes k n) ≡ n
number_back_lem zero n h = omega arith
number_back_lem (suc k) n h =
    let l : n < 256 ^ k * 256 = rw (pow-suc 256 k) at h in
    omega (arith, number_back_lem k (n / 256) (omega arith))

pub bytes_back : (bytes : List ℕ) → Bytes bytes → number_bytes (length bytes) (number bytes) ≡ bytes
bytes_back [] h = refl
bytes_back (b ∷ bytes) h =
    let l : b < 256 = bytes_head b bytes h in
    let low : (b + 256 * number bytes) % 256 ≡ b = omega arith in
    let high : (b + 256 * number bytes) / 256 ≡ number bytes = omega arith in
    rw (low, high, bytes_back bytes (bytes_tail b bytes h))
