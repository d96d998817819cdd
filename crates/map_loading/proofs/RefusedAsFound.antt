-- Every refusal of a load leaves the store as found.
use mathlib.Core.Path.{◌≡◌}
use Rattle.map_loading.specs.Loading.{additions, load_of}
use Rattle.map_loading.specs.Laws.{RefusedAsFound}
use Rattle.map_loading.proofs.AddAll.{refused_as_found_lem}
use Rattle.map_loading.proofs.LoadCases.{Load, none_read, read, load_cases}

pub refused_as_found : RefusedAsFound
refused_as_found s bytes k c e = by (load_cases s bytes)
  where
    by : Load s bytes → (load_of s bytes).store ≡ s
    by (none_read m f q l) = rw l
    by (read rs p q l) = rw l (refused_as_found_lem s 0 s (additions rs) k c (rw l at e))
