-- What holds of the path of two frames, of latest common time and of lookup. Proved in proofs/ under the same names.
use Rattle.std.specs.Prelude.{ℕ, ◌^◌, ◌≤◌, ◌<◌, ◌≡◌, ◌↔◌, ◌⊎◌, true, false, cond, List, [], ◌∷◌, ◌++◌, eqb}
use Rattle.time.specs.Reply.{Carried, nothing, frame, hop, answer, refusal}
use Rattle.geometry.specs.Isometry.{identity}
use Rattle.buffer.specs.declared.kind.Kind.TheVariants.{Static}
use Rattle.buffer.specs.declared.coverage.Coverage.{Coverage}
use Rattle.buffer.specs.declared.coverage.Coverage.TheVariants.{AllTime, Range, Empty}
use Rattle.buffer.specs.Map.{all, rising}
use Rattle.buffer.specs.Samples.{range, coverage}
use Rattle.registry.specs.Tree.{Tree, Limits, Addition, member, add, wipe}
use Rattle.registry.specs.Sound.{no_circle}
use Rattle.registry.specs.Answers.{done, pose, static, at}
use Rattle.registry.specs.Laws.{SoundTree}
use Rattle.registry.specs.Store.{Store, tree_of}
use Rattle.registry.specs.Calls.{add_of, wipe_of, lookup_of, common_time_of}
use Rattle.registry.specs.Path.{Hop, chain, until, hops, side, connected, climb_end, known, lookup, common_time}

-- ---- the path of two frames

-- its hops: the target's side, then the source's
unfoldable pub path : Tree → ℕ → ℕ → List Hop
path t target source = hops t (side t target source) ++ hops t (side t source target)

-- each hop of the list has P
abbrev pub Every : (Hop → Type 0) → List Hop → Type 0
Every P [] = Unit {0}
Every P (h ∷ hs) = P h × Every P hs

-- Two climbs end at one frame exactly where there is a path, and the hops of each side are those up to where its climb ends.
abbrev pub ClimbsMeet : Type 0
ClimbsMeet = (t : Tree) → rising t ≡ true → no_circle t ≡ true → (f g : ℕ)
    → (connected t f g ≡ eqb (climb_end t f g) (climb_end t g f)) × (hops t (side t f g) ≡ hops t (until (eqb (climb_end t f g)) (chain t f)))

-- two known frames, or one twice
pub record TwoKnown (t : Tree) (f g : ℕ) : Type 0 where
  pub target : known t f ≡ true
  pub source : known t g ≡ true

-- Two frames that differ are known where there is a path. So the laws about "connected frames" that ask for known ones, too, leave out nothing but an
-- unknown frame and itself: `connected` holds of these, and their path is empty.
abbrev pub ConnectedAreKnown : Type 0
ConnectedAreKnown = (t : Tree) (f g : ℕ) → (f ≡ g → ⊥) → connected t f g ≡ true → TwoKnown t f g

-- ---- "The same frame twice gives identity, or Static", where it is known: "known ones keep identity and Static" (M-102)

abbrev pub SameFrameAnswers : Type 0
SameFrameAnswers = (t : Tree) (f : ℕ) → known t f ≡ true → ((i : ℕ) → lookup t f f i ≡ answer (pose identity)) × (common_time t f f ≡ answer static)

-- ---- latest common time

abbrev pub cover : Hop → Coverage
cover h = coverage h.1.kind h.1.samples

-- P of a moving hop's first and last instant: it asks nothing of a static hop, and no empty one has it
abbrev pub Ranged : (ℕ → ℕ → Type 0) → Coverage → Type 0
Ranged P AllTime = Unit {0}
Ranged P (Range start end) = P start end
Ranged P Empty = ⊥

-- i is inside the first-to-last range of a moving hop
abbrev pub Inside : ℕ → Hop → Type 0
Inside i h = Ranged (λ start end. (start ≤ i) × (i ≤ end)) (cover h)

abbrev pub InsideEvery : ℕ → List Hop → Type 0
InsideEvery i hs = Every (Inside i) hs

-- the greatest instant inside every moving hop's range; where no hop moves every instant is inside, and none is the greatest
pub record Greatest (i : ℕ) (hs : List Hop) : Type 0 where
  pub inside : InsideEvery i hs
  pub top : (j : ℕ) → InsideEvery j hs → j ≤ i

-- "latest common time is Static when every hop is static", and then alone
abbrev pub CommonTimeStatic : Type 0
CommonTimeStatic = (t : Tree) (f g : ℕ) → TwoKnown t f g → connected t f g ≡ true
    → (common_time t f g ≡ answer static) ↔ Every (λ h. h.1.kind ≡ Static) (path t f g)

-- "else, for connected frames, the greatest instant inside every moving hop's first-to-last range"
abbrev pub CommonTimeGreatest : Type 0
CommonTimeGreatest = (t : Tree) (f g : ℕ) → connected t f g ≡ true
    → (i : ℕ) → (common_time t f g ≡ answer (at i)) ↔ Greatest i (path t f g)

-- "It is refused exactly when no such instant exists"
abbrev pub CommonTimeRefused : Type 0
CommonTimeRefused = (t : Tree) (f g : ℕ) → TwoKnown t f g → connected t f g ≡ true
    → ((k : ℕ) × (c : Carried) × (common_time t f g ≡ refusal k c)) ↔ ((i : ℕ) → InsideEvery i (path t f g) → ⊥)

-- h stands on the path, after hops that have P and before hops that have Q
pub record Placed (P : Hop → Type 0) (h : Hop) (Q : Hop → Type 0) (hs : List Hop) : Type 0 where
  pub before : List Hop
  pub after : List Hop
  pub place : hs ≡ before ++ (h ∷ after)
  pub earlier : Every P before
  pub later : Every Q after

-- "first empty hop, else first hop with the latest start"
pub data Blamed (h : Hop) (hs : List Hop) : Type 0 where
  empty : cover h ≡ Empty → Placed (λ x. Ranged (λ start end. Unit {0}) (cover x)) h (λ x. Unit {0}) hs → Blamed h hs
  latest : (s e : ℕ) → cover h ≡ Range s e
      → Placed (λ x. Ranged (λ start end. start < s) (cover x)) h (λ x. Ranged (λ start end. start ≤ s) (cover x)) hs → Blamed h hs

-- the refusal is 12 and carries the blamed hop's "child and range, if any"
abbrev pub CommonTimeBlames : Type 0
CommonTimeBlames = (t : Tree) (f g : ℕ) → TwoKnown t f g → connected t f g ≡ true → (k : ℕ) (c : Carried) → common_time t f g ≡ refusal k c
    → (k ≡ 12) × ((h : Hop) × (c ≡ hop h.0 (range h.1.samples)) × Blamed h (path t f g))

-- ---- "An accepted addition to an edge off the path of two connected frames changes neither their lookup nor their latest common time"

-- c is the child of no hop of the path
abbrev pub OffPath : Tree → ℕ → ℕ → ℕ → Type 0
OffPath t c f g = Every (λ h. (h.0 ≡ c → ⊥)) (path t f g)

-- what two trees answer of two frames
pub record SameAnswers (t u : Tree) (f g : ℕ) : Type 0 where
  pub lookups : (i : ℕ) → lookup u f g i ≡ lookup t f g i
  pub common_times : common_time u f g ≡ common_time t f g

abbrev pub PathLaw : Type 0
PathLaw = (L : Limits) (t u : Tree) (a : Addition) → rising t ≡ true → no_circle t ≡ true → add L t a ≡ answer u
    → (f g : ℕ) → TwoKnown t f g → connected t f g ≡ true → OffPath t a.child f g → SameAnswers t u f g

-- the same of a wipe
abbrev pub PathLawWipe : Type 0
PathLawWipe = (t u : Tree) (c i : ℕ) → rising t ≡ true → wipe t c i ≡ answer u
    → (f g : ℕ) → connected t f g ≡ true → OffPath t c f g → SameAnswers t u f g

-- what two stores answer of two frames
pub record SameReplies (s u : Store) (f g : ℕ) : Type 0 where
  pub lookups : (i : ℕ) → lookup_of u f g i ≡ lookup_of s f g i
  pub common_times : common_time_of u f g ≡ common_time_of s f g

-- the law, of the calls on lent words: an addition of 32-bit frames that is answered with done
abbrev pub CallsPathLaw : Type 0
CallsPathLaw = (s : Store) (a : Addition) → a.child < 2 ^ 32 → a.parent < 2 ^ 32 → (add_of s a).reply ≡ answer done
    → (f g : ℕ) → TwoKnown (tree_of s) f g → connected (tree_of s) f g ≡ true → OffPath (tree_of s) a.child f g → SameReplies s (add_of s a).store f g

-- the same of a wipe
abbrev pub CallsPathLawWipe : Type 0
CallsPathLawWipe = (s : Store) (c i : ℕ) → (wipe_of s c i).reply ≡ answer done
    → (f g : ℕ) → connected (tree_of s) f g ≡ true → OffPath (tree_of s) c f g → SameReplies s (wipe_of s c i).store f g

-- ---- lookup

-- children rise, and the instants of each
pub record Rises (t : Tree) : Type 0 where
  pub children : rising t ≡ true
  pub instants : all (λ x. rising x.1.samples) t ≡ true

-- a lookup is refused with no other number, and so never with 15
abbrev pub LookupRefusals : Type 0
LookupRefusals = (t : Tree) → Rises t → (f g i k : ℕ) (c : Carried) → lookup t f g i ≡ refusal k c
    → member k (9 ∷ 11 ∷ 10 ∷ 13 ∷ 14 ∷ 3 ∷ []) ≡ true

-- a lookup from a known frame that the source's climb comes to inverts nothing: it is refused with 11, or with 3 of the pose that comes out (M-103)
abbrev pub LookupFromAbove : Type 0
LookupFromAbove = (t : Tree) → Rises t → (f g i k : ℕ) (c : Carried) → known t f ≡ true → member f (chain t g) ≡ true → lookup t f g i ≡ refusal k c
    → member k (11 ∷ 3 ∷ []) ≡ true

-- the unknown frame of two, the target first
abbrev pub Unknown : Tree → ℕ → ℕ → ℕ → Type 0
Unknown t f g x = ((known t f ≡ false) × (x ≡ f)) ⊎ ((known t f ≡ true) × (known t g ≡ false) × (x ≡ g))

-- "9 (target first)", with "the frame", of lookup and of latest common time, and of an unknown frame and itself
abbrev pub UnknownFrame : Type 0
UnknownFrame = (t : Tree) → Rises t → (f g x : ℕ)
    → ((i : ℕ) → (lookup t f g i ≡ refusal 9 (frame x)) ↔ Unknown t f g x) × ((common_time t f g ≡ refusal 9 (frame x)) ↔ Unknown t f g x)

-- the hops that a lookup asks: "in path order, or, without a path, on the climb from target to its root, then from source to its"
unfoldable pub asked : Tree → ℕ → ℕ → List Hop
asked t f g = cond (connected t f g) (path t f g) (hops t (chain t f) ++ hops t (chain t g))

-- "11: first failing hop ..; its child and range, if any"
abbrev pub LookupNotServed : Type 0
LookupNotServed = (L : Limits) (t : Tree) → SoundTree L t → (f g : ℕ) → TwoKnown t f g → (i : ℕ) (c : Carried)
    → (lookup t f g i ≡ refusal 11 c)
    ↔ ((h : Hop) × (c ≡ hop h.0 (range h.1.samples)) × (Inside i h → ⊥) × Placed (Inside i) h (λ x. Unit {0}) (asked t f g))

-- "10: both known, no path (in lookup, and 11 not due)"
abbrev pub LookupDisconnected : Type 0
LookupDisconnected = (L : Limits) (t : Tree) → SoundTree L t → (f g : ℕ) → TwoKnown t f g → (i : ℕ) (c : Carried)
    → (lookup t f g i ≡ refusal 10 c) ↔ ((c ≡ nothing) × (connected t f g ≡ false) × InsideEvery i (asked t f g))
