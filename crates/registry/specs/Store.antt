-- The three lent slices, and the layout of their words: where they lie, the words that hold rows, and the rows and the tree that words hold. The numbers
-- of the layout stand in this module alone; all else goes by its names.
use Rattle.std.specs.Prelude.{ℕ, zero, suc, ◌+◌, ◌*◌, Bool, ◌&&◌, List, [], ◌∷◌, ◌++◌, eqb, leb, length, get_or, set, take, drop, Float}
use Rattle.std.specs.Prelude.{Option, None, Some}
use Rattle.time.specs.Float.{zero64}
use Rattle.buffer.specs.declared.kind.Kind.{Kind}
use Rattle.buffer.specs.declared.kind.Kind.TheVariants.{Static, Dynamic}
use Rattle.buffer.specs.Row.{padded, concat_map, instant_words, pose_words, samples_of}
use Rattle.registry.specs.Tree.{Edge, Tree, Limits}

pub record Store : Type 0 where
  pub head : List ℕ
  pub instants : List ℕ
  pub poses : List Float

-- ---- where the words lie

-- "Lengths are exactly 5+4E, E×S and 7×E×S", for E rows of S samples. Row r begins where r rows end: "Row r, sample i lies at r×S+i".
abbrev pub head_length : ℕ → ℕ
head_length rows = 5 + 4 * rows

abbrev pub instants_length : ℕ → ℕ → ℕ
instants_length rows capacity = rows * capacity

abbrev pub poses_length : ℕ → ℕ → ℕ
poses_length rows capacity = 7 * (rows * capacity)

-- the floats of one row
abbrev pub row_floats : ℕ → ℕ
row_floats capacity = 7 * capacity

-- ---- from rows to words

-- the rows in their places: the child and the edge of each
abbrev pub Rows : Type 0
Rows = List (ℕ × Edge)

-- 0 static, 1 moving
abbrev pub kind_word : Kind → ℕ
kind_word Static = 0
kind_word Dynamic = 1

-- the age flag, 0 or 1, and the age
abbrev pub flag_word : Option ℕ → ℕ
flag_word None = 0
flag_word (Some age) = 1

abbrev pub age_word : Option ℕ → ℕ
age_word None = 0
age_word (Some age) = age

-- E, S, N, age flag, age
abbrev pub header_words : Limits → ℕ → List ℕ
header_words L used = L.rows ∷ L.capacity ∷ used ∷ flag_word L.age ∷ age_word L.age ∷ []

-- child, parent, kind, count
abbrev pub row_words : ℕ × Edge → List ℕ
row_words x = x.0 ∷ x.1.parent ∷ kind_word x.1.kind ∷ length x.1.samples ∷ []

-- the header, then the rows; their instants; their poses; zeros after them
unfoldable pub encode : Limits → Rows → Store
encode L rows = record {
  head = header_words L (length rows) ++ padded (4 * L.rows) 0 (concat_map row_words rows);
  instants = padded (instants_length L.rows L.capacity) 0 (concat_map (λ x. instant_words L.capacity x.1.samples) rows);
  poses = padded (poses_length L.rows L.capacity) zero64 (concat_map (λ x. pose_words L.capacity x.1.samples) rows);
}

-- ---- from words to rows

-- the words of the header: E, S, N, age flag, age
abbrev pub rows_in : Store → ℕ
rows_in s = get_or s.head 0 0

abbrev pub capacity_in : Store → ℕ
capacity_in s = get_or s.head 1 0

abbrev pub used_in : Store → ℕ
used_in s = get_or s.head 2 0

abbrev pub flag_in : Store → ℕ
flag_in s = get_or s.head 3 0

abbrev pub age_word_in : Store → ℕ
age_word_in s = get_or s.head 4 0

abbrev pub age_of : ℕ → ℕ → Option ℕ
age_of zero age = None
age_of (suc flag) age = Some age

abbrev pub age_in : Store → Option ℕ
age_in s = age_of (flag_in s) (age_word_in s)

unfoldable pub limits_of : Store → Limits
limits_of s = record { rows = rows_in s; capacity = capacity_in s; age = age_in s }

-- the words of row r: child, parent, kind, count
abbrev pub row_word : Store → ℕ → ℕ → ℕ
row_word s r j = get_or s.head (head_length r + j) 0

abbrev pub child_in : Store → ℕ → ℕ
child_in s r = row_word s r 0

abbrev pub parent_in : Store → ℕ → ℕ
parent_in s r = row_word s r 1

abbrev pub kind_in : Store → ℕ → ℕ
kind_in s r = row_word s r 2

abbrev pub count_in : Store → ℕ → ℕ
count_in s r = row_word s r 3

abbrev pub kind_of_word : ℕ → Kind
kind_of_word zero = Static
kind_of_word (suc k) = Dynamic

-- row r's part of the instants, and of the poses
abbrev pub row_instants : Store → ℕ → List ℕ
row_instants s r = take (capacity_in s) (drop (instants_length r (capacity_in s)) s.instants)

abbrev pub row_poses : Store → ℕ → List Float
row_poses s r = take (row_floats (capacity_in s)) (drop (poses_length r (capacity_in s)) s.poses)

-- what follows the used rows
abbrev pub unused_head : Store → List ℕ
unused_head s = drop (head_length (used_in s)) s.head

abbrev pub unused_instants : Store → List ℕ
unused_instants s = drop (instants_length (used_in s) (capacity_in s)) s.instants

abbrev pub unused_poses : Store → List Float
unused_poses s = drop (poses_length (used_in s) (capacity_in s)) s.poses

-- the edge that row r holds, and its child with it
abbrev pub edge_at : Store → ℕ → Edge
edge_at s r = record {
  parent = parent_in s r;
  kind = kind_of_word (kind_in s r);
  samples = samples_of (count_in s r) (row_instants s r) (row_poses s r);
}

abbrev pub row_at : Store → ℕ → ℕ × Edge
row_at s r = (child_in s r, edge_at s r)

-- g 0, g 1, .., g (n - 1)
abbrev pub tabulate : {A : Type 0} → ℕ → (ℕ → A) → List A
tabulate zero g = []
tabulate (suc n) g = g zero ∷ tabulate n (λ k. g (suc k))

abbrev pub rows_of : Store → Rows
rows_of s = tabulate (used_in s) (row_at s)

-- ---- a head with some of its words written: the header; N; the count of row r

abbrev pub with_header : Limits → ℕ → List ℕ → List ℕ
with_header L used head = header_words L used ++ drop (head_length 0) head

abbrev pub with_used : ℕ → List ℕ → List ℕ
with_used used head = set head 2 used

abbrev pub with_count : ℕ → ℕ → List ℕ → List ℕ
with_count r count head = set head (head_length r + 3) count

-- ---- rows and the tree that they are

-- rows stand by rising child, so that the rows in their places are the tree
unfoldable pub tree_of : Store → Tree
tree_of s = rows_of s

-- the words of this tree under these limits
unfoldable pub stored : Limits → Tree → Store
stored L t = encode L t

-- ---- refusal 1

-- E is 1 to 256 and S is 1 to 1,024, and the lengths are exactly 5+4E, E×S and 7×E×S
abbrev pub sizes_fit : ℕ → ℕ → Store → Bool
sizes_fit rows capacity s =
    leb 1 rows && leb rows 256 && leb 1 capacity && leb capacity 1024
    && eqb (length s.head) (head_length rows)
    && eqb (length s.instants) (instants_length rows capacity)
    && eqb (length s.poses) (poses_length rows capacity)

-- of a store that is lent: its head has 5 words and its own sizes fit
unfoldable pub sized : Store → Bool
sized s = leb (head_length 0) (length s.head) && sizes_fit (rows_in s) (capacity_in s) s
