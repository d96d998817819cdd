-- The frame tree as document 01 has it: a map from frames to timed poses, with E and S as its bounds, and what an addition and a wipe make of it.
use Rattle.std.specs.Prelude.{ℕ, zero, suc, Bool, true, false, not, ◌&&◌, ◌||◌, List, [], ◌∷◌, eqb, ltb, leb, length}
use Rattle.std.specs.Prelude.{Option, None, Some}
use Rattle.time.specs.declared.stamp.Stamp.{Stamp}
use Rattle.time.specs.declared.stamp.Stamp.TheVariants as stamp
use Rattle.time.specs.Reply.{Carried, nothing, frame, Reply, answer, refusal, refuse, ◌then◌}
use Rattle.geometry.specs.declared.isometry.Isometry.{Isometry}
use Rattle.geometry.specs.Transform.{validate}
use Rattle.buffer.specs.declared.kind.Kind.{Kind}
use Rattle.buffer.specs.declared.kind.Kind.TheVariants.{Static, Dynamic}
use Rattle.buffer.specs.Kind.{kind_of}
use Rattle.buffer.specs.Map.{Map, get, put}
use Rattle.buffer.specs.Samples.{Samples, insert, remove_before}

-- a child's parent, kind and poses by instant; a static child's single pose stands at instant 0
pub record Edge : Type 0 where
  pub parent : ℕ
  pub kind : Kind
  pub samples : Samples

-- edges by child
abbrev pub Tree : Type 0
Tree = Map Edge

-- E rows, S samples a row, and the age, if there is one
pub record Limits : Type 0 where
  pub rows : ℕ
  pub capacity : ℕ
  pub age : Option ℕ

pub record Addition : Type 0 where
  pub child : ℕ
  pub parent : ℕ
  pub stamp : Stamp
  pub pose : Isometry

-- the addition with these operands
abbrev pub addition : ℕ → ℕ → Stamp → Isometry → Addition
addition child parent stamp pose = record { child = child; parent = parent; stamp = stamp; pose = pose }

abbrev pub instant_of : Stamp → ℕ
instant_of stamp.Static = 0
instant_of (stamp.At i) = i

-- the tree has no child, and so no parent either
abbrev pub holds_no_frame : Tree → Bool
holds_no_frame t = eqb (length t) 0

-- ---- climbing

abbrev pub is_absent : Option Edge → Bool
is_absent None = true
is_absent (Some e) = false

abbrev pub rise : Option Edge → (ℕ → List ℕ) → List ℕ
rise None next = []
rise (Some e) next = e.parent ∷ next e.parent

-- the frames above f, its parent first, at most n of them
abbrev pub above : ℕ → Tree → ℕ → List ℕ
above zero t f = []
above (suc n) t f = rise (get t f) (λ p. above n t p)

-- the frames above f: without a circle there are at most as many as rows
abbrev pub ancestors : Tree → ℕ → List ℕ
ancestors t f = above (length t) t f

abbrev pub member : ℕ → List ℕ → Bool
member f [] = false
member f (x ∷ xs) = eqb f x || member f xs

-- ---- addition, to a tree that holds `held` at the child

abbrev pub same_kind : Kind → Kind → Bool
same_kind Static Static = true
same_kind Static Dynamic = false
same_kind Dynamic Static = false
same_kind Dynamic Dynamic = true

-- "child is held under another"
abbrev pub other_parent : Option Edge → ℕ → Bool
other_parent None p = false
other_parent (Some e) p = not (eqb e.parent p)

-- "that parent"
abbrev pub current_parent : Option Edge → Carried
current_parent None = nothing
current_parent (Some e) = frame e.parent

-- "static for moving, or the reverse"
abbrev pub other_kind : Option Edge → Kind → Bool
other_kind None k = false
other_kind (Some e) k = not (same_kind e.kind k)

-- the child's edge with the pose put in and then what is too old dropped
abbrev pub updated_edge : Option ℕ → Addition → Option Edge → Edge
updated_edge age a None = record {
  parent = a.parent;
  kind = kind_of a.stamp;
  samples = insert age (instant_of a.stamp) a.pose [];
}
updated_edge age a (Some e) = record {
  parent = e.parent;
  kind = e.kind;
  samples = insert age (instant_of a.stamp) a.pose e.samples;
}

-- the refusals in document 01's order: 7, 3, 4, 5, 6, 8, 16, 17
abbrev pub add_to : Limits → Tree → Addition → Option Edge → Reply Tree
add_to L t a held =
    refuse (is_absent held && member a.child (ancestors t a.parent)) 7 nothing
    (validate a.pose then λ p.
    refuse (eqb a.parent a.child) 5 nothing
    (refuse (other_parent held a.parent) 6 (current_parent held)
    (refuse (other_kind held (kind_of a.stamp)) 8 nothing
    (refuse (is_absent held && leb L.rows (length t)) 16 nothing
    (refuse (ltb L.capacity (length (updated_edge L.age a held).samples)) 17 nothing
    (answer (put a.child (updated_edge L.age a held) t)))))))

-- the tree after an addition, or why it is refused
unfoldable pub add : Limits → Tree → Addition → Reply Tree
add L t a = add_to L t a (get t a.child)

-- ---- wipe

abbrev pub wiped : ℕ → ℕ → Tree → Option Edge → Reply Tree
wiped f i t None = refusal 9 (frame f)
wiped f i t (Some e) = answer (put f (record { parent = e.parent; kind = e.kind; samples = remove_before e.kind i e.samples }) t)

-- "A wipe drops a moving child's poses before its instant"; 9 for a frame that is no child
unfoldable pub wipe : Tree → ℕ → ℕ → Reply Tree
wipe t f i = wiped f i t (get t f)
