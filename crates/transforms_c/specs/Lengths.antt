-- The lengths of the three slices for E rows of S samples: those of the store's layout for E from 1 to 256 and S from 1 to 1,024, else 0.
use Rattle.std.specs.Prelude.{ℕ, Bool, cond, ◌&&◌, leb}
use Rattle.registry.specs.Store.{head_length, instants_length, poses_length}

abbrev pub rows_fit : ℕ → Bool
rows_fit rows = leb 1 rows && leb rows 256

abbrev pub capacity_fits : ℕ → Bool
capacity_fits capacity = leb 1 capacity && leb capacity 1024

abbrev pub head_len : ℕ → ℕ
head_len rows = cond (rows_fit rows) (head_length rows) 0

abbrev pub instants_len : ℕ → ℕ → ℕ
instants_len rows capacity = cond (rows_fit rows && capacity_fits capacity) (instants_length rows capacity) 0

abbrev pub poses_len : ℕ → ℕ → ℕ
poses_len rows capacity = cond (rows_fit rows && capacity_fits capacity) (poses_length rows capacity) 0
