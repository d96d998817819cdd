-- The rows of the head and their parts of the slices, as the contracts of the private functions cite them. No public contract rests on these.
use Rattle.std.specs.Prelude.{ℕ, suc, ◌+◌, ◌≤◌, ◌<◌, ◌≡◌, true, List, [], leb, ltb, length}
use Rattle.time.specs.Reply.{Reply, answer, nothing, refuse}
use Rattle.geometry.specs.declared.isometry.Isometry.{Isometry}
use Rattle.buffer.specs.declared.kind.Kind.{Kind}
use Rattle.buffer.specs.Map.{all, put, rising}
use Rattle.buffer.specs.Samples.{Samples, insert, remove_before}
use Rattle.buffer.specs.Words.{inserted}
use Rattle.buffer.specs.Row.{Row, instant_words, pose_words}
use Rattle.registry.specs.Tree.{Edge, Tree}
use Rattle.registry.specs.Store.{Store, head_length, instants_length, poses_length, row_floats, row_words, rows_in, capacity_in, used_in, limits_of, child_in, count_in, row_instants, row_poses, edge_at, with_used, tree_of, stored}
use Rattle.registry.specs.Calls.{store_of}

-- a store of which only the head is read
abbrev pub head_of : List ℕ → Store
head_of h = store_of h [] []

-- the child of row r
abbrev pub child_at : List ℕ → ℕ → ℕ
child_at h r = child_in (head_of h) r

-- ---- what lies within the slices

-- the words before the rows
abbrev pub HasHeader : List ℕ → Type 0
HasHeader h = head_length 0 ≤ length h

-- the words of row r
abbrev pub HasRow : ℕ → List ℕ → Type 0
HasRow r h = head_length (suc r) ≤ length h

-- the words of the used rows
abbrev pub UsedRows : List ℕ → Type 0
UsedRows h = head_length (used_in (head_of h)) ≤ length h

-- the used rows in the three slices
pub record UsedParts (s : Store) : Type 0 where
  pub head : UsedRows s.head
  pub instants : instants_length (used_in s) (capacity_in s) ≤ length s.instants
  pub poses : poses_length (used_in s) (capacity_in s) ≤ length s.poses

-- row r in the three slices
pub record RowPart (r : ℕ) (s : Store) : Type 0 where
  pub head : HasRow r s.head
  pub instants : instants_length r (capacity_in s) + capacity_in s ≤ length s.instants
  pub poses : poses_length r (capacity_in s) + row_floats (capacity_in s) ≤ length s.poses

-- ---- the search for a frame's row

-- the used rows lie within the head, and their children rise strictly
pub record RisingRows (h : List ℕ) : Type 0 where
  pub within : UsedRows h
  pub rises : (j k : ℕ) → j < k → k < used_in (head_of h) → child_at h j < child_at h k

-- row r is the frame's
pub record IsRow (h : List ℕ) (frame r : ℕ) : Type 0 where
  pub used : r < used_in (head_of h)
  pub child : child_at h r ≡ frame

-- no row is the frame's; its row would stand at k
pub record AbsentAt (h : List ℕ) (frame k : ℕ) : Type 0 where
  pub used : k ≤ used_in (head_of h)
  pub below : (j : ℕ) → j < k → child_at h j < frame
  pub above : (j : ℕ) → k ≤ j → j < used_in (head_of h) → frame < child_at h j

-- the children of the first k rows are below the frame; that of row k, if it is used, is not
pub record FirstRow (h : List ℕ) (frame k : ℕ) : Type 0 where
  pub used : k ≤ used_in (head_of h)
  pub below : (j : ℕ) → j < k → child_at h j < frame
  pub from : k < used_in (head_of h) → frame ≤ child_at h k

-- ---- rows with samples

-- row r lies within the three slices, and its samples are those of a row
pub record HeldRow (s : Store) (r : ℕ) : Type 0 where
  pub part : RowPart r s
  pub held : Row (count_in s r) (row_instants s r) (row_poses s r)

-- ---- a row put in

-- a row that holds no sample
abbrev pub empty_row : ℕ → ℕ → Kind → ℕ × Edge
empty_row child parent kind = (child, record { parent = parent; kind = kind; samples = [] })

-- the head with the row put in at k, before the others
unfoldable pub row_inserted : ℕ → ℕ × Edge → List ℕ → List ℕ
row_inserted k x h = let n = used_in (head_of h) in with_used (n + 1) (inserted (head_length k) (head_length n) (row_words x) h)

-- the store with it put in
unfoldable pub with_row : ℕ → ℕ × Edge → Store → Store
with_row k x s =
    let S = capacity_in s in
    store_of
    (row_inserted k x s.head)
    (inserted (instants_length k S) (instants_length (used_in s) S) (instant_words S x.1.samples) s.instants)
    (inserted (poses_length k S) (poses_length (used_in s) S) (pose_words S x.1.samples) s.poses)

-- there is room for one more row, and k is a place for it
pub record RowRoom (k : ℕ) (s : Store) : Type 0 where
  pub place : k ≤ used_in s
  pub part : RowPart (used_in s) s

-- ---- a row with other samples

-- the words are those of the tree that they hold, which fits them, and row r is one of its rows
pub record StoredRow (r : ℕ) (s : Store) : Type 0 where
  pub words : s ≡ stored (limits_of s) (tree_of s)
  pub rises : rising (tree_of s) ≡ true
  pub few : used_in s ≤ rows_in s
  pub samples : all (λ x. leb (length x.1.samples) (capacity_in s)) (tree_of s) ≡ true
  pub used : r < used_in s
  pub row : HeldRow s r

-- the tree with these samples in the edge of row r
abbrev pub resampled : Store → ℕ → Samples → Tree
resampled s r m = put (child_in s r) (record { parent = (edge_at s r).parent; kind = (edge_at s r).kind; samples = m }) (tree_of s)

-- a sample put into row r, or 17
unfoldable pub put_into : Store → ℕ → ℕ → Isometry → Reply Tree
put_into s r i p =
    let m = insert (limits_of s).age i p (edge_at s r).samples in
    refuse (ltb (limits_of s).capacity (length m)) 17 nothing (answer (resampled s r m))

-- row r's samples before t removed, where it moves
unfoldable pub wiped_in : Store → ℕ → ℕ → Tree
wiped_in s r t = resampled s r (remove_before (edge_at s r).kind t (edge_at s r).samples)
