-- "Every call answers as a map from frames to timed poses would, with E and S as its bounds". Proved in proofs/ under the same names.
use Rattle.std.specs.Prelude.{ℕ, ◌+◌, ◌≤◌, ◌≡◌, ◌↔◌, Bool, true, false, cond, ◌&&◌, eqb, ltb}
use Rattle.std.specs.Prelude.{Option, None, Some, option_map}
use Rattle.time.specs.Reply.{Carried, frame, answer, refusal}
use Rattle.geometry.specs.declared.isometry.Isometry.{Isometry}
use Rattle.buffer.specs.declared.kind.Kind.{Kind}
use Rattle.buffer.specs.declared.kind.Kind.TheVariants.{Static, Dynamic}
use Rattle.buffer.specs.Map.{get}
use Rattle.buffer.specs.Kind.{kind_of}
use Rattle.registry.specs.Tree.{Edge, Tree, Limits, Addition, instant_of, add, wipe}
use Rattle.registry.specs.Path.{lookup, common_time}
use Rattle.registry.specs.Laws.{SoundTree}
use Rattle.registry.specs.PathLaws.{Rises}

-- "each child has a parent and a kind, a static child a single pose, a moving child poses by instant"; a static child's pose stands at instant 0
pub record FrameMap : Type 0 where
  pub parent : ℕ → Option ℕ
  pub kind : ℕ → Option Kind
  pub pose : ℕ → ℕ → Option Isometry

pub record SameMap (m n : FrameMap) : Type 0 where
  pub parents : (f : ℕ) → m.parent f ≡ n.parent f
  pub kinds : (f : ℕ) → m.kind f ≡ n.kind f
  pub poses : (f i : ℕ) → m.pose f i ≡ n.pose f i

abbrev pub pose_at : ℕ → Option Edge → Option Isometry
pose_at i None = None
pose_at i (Some e) = get e.samples i

-- the map that a tree is
unfoldable pub view_of : Tree → FrameMap
view_of t = record {
  parent = λ f. option_map (λ e. e.parent) (get t f);
  kind = λ f. option_map (λ e. e.kind) (get t f);
  pose = λ f i. pose_at i (get t f);
}

-- ---- what an addition and a wipe make of a map

-- "An addition puts one in"
unfoldable pub put_in : Addition → FrameMap → FrameMap
put_in a m = record {
  parent = λ f. cond (eqb f a.child) (Some a.parent) (m.parent f);
  kind = λ f. cond (eqb f a.child) (Some (kind_of a.stamp)) (m.kind f);
  pose = λ f i. cond (eqb f a.child && eqb i (instant_of a.stamp)) (Some a.pose) (m.pose f i);
}

abbrev pub moving : Option Kind → Bool
moving None = false
moving (Some Static) = false
moving (Some Dynamic) = true

-- a moving child's poses at these instants dropped
unfoldable pub remove_poses : ℕ → (ℕ → Bool) → FrameMap → FrameMap
remove_poses child these m = record {
  parent = m.parent;
  kind = m.kind;
  pose = λ f i. cond (eqb f child && moving (m.kind f) && these i) None (m.pose f i);
}

-- n is the newest instant of the frame f
pub record Newest (m : FrameMap) (f n : ℕ) : Type 0 where
  pub held : (p : Isometry) × (m.pose f n ≡ Some p)
  pub top : (i : ℕ) (p : Isometry) → m.pose f i ≡ Some p → i ≤ n

-- "where there is an age", "older than its newest less the age"
abbrev pub older : Option ℕ → ℕ → ℕ → Bool
older None newest i = false
older (Some age) newest i = ltb (i + age) newest

-- ---- the laws

-- "An addition puts one in, then, where there is an age, drops a moving child's poses older than its newest less the age"
abbrev pub AddAsMap : Type 0
AddAsMap = (L : Limits) (t u : Tree) (a : Addition) → SoundTree L t → add L t a ≡ answer u
    → (n : ℕ) × Newest (put_in a (view_of t)) a.child n × SameMap (view_of u) (remove_poses a.child (older L.age n) (put_in a (view_of t)))

-- "A wipe drops a moving child's poses before its instant"
abbrev pub WipeAsMap : Type 0
WipeAsMap = (t u : Tree) (f i : ℕ) → wipe t f i ≡ answer u → SameMap (view_of u) (remove_poses f (λ j. ltb j i) (view_of t))

-- "wipe: not a child": 9 with the frame, exactly for a frame without a parent
abbrev pub WipeRefused : Type 0
WipeRefused = (t : Tree) (f i k : ℕ) (c : Carried)
    → (wipe t f i ≡ refusal k c) ↔ ((k ≡ 9) × (c ≡ frame f) × ((view_of t).parent f ≡ None))

-- a sound tree and its rows rise
abbrev pub SoundRises : Type 0
SoundRises = (L : Limits) (t : Tree) → SoundTree L t → Rises t

-- there is one tree for a map
abbrev pub ViewFixesTree : Type 0
ViewFixesTree = (t u : Tree) → Rises t → Rises u → SameMap (view_of t) (view_of u) → t ≡ u

-- so what a call answers, and the tree it leaves, are fixed by the map and by E, S and the age
pub record SameCalls (t u : Tree) : Type 0 where
  pub lookups : (target source i : ℕ) → lookup t target source i ≡ lookup u target source i
  pub common_times : (target source : ℕ) → common_time t target source ≡ common_time u target source
  pub adds : (L : Limits) (a : Addition) → add L t a ≡ add L u a
  pub wipes : (f i : ℕ) → wipe t f i ≡ wipe u f i

abbrev pub ViewFixesCalls : Type 0
ViewFixesCalls = (t u : Tree) → Rises t → Rises u → SameMap (view_of t) (view_of u) → SameCalls t u
