-- The order of each call's refusals as data, as document 01 prints it, beside what makes each number due, whatever the order is. The laws: a reply
-- is the refusal of the first number that is due, with what it carries, and an answer where none is. Proved in proofs/orders.
use Rattle.std.specs.Prelude.{ℕ, ◌≡◌, Bool, true, false, cond, not, ◌&&◌, List, [], ◌∷◌, eqb, leb, ltb, length}
use Rattle.std.specs.Prelude.{Option, None, Some}
use Rattle.std.specs.Option.{option_or}
use Rattle.time.specs.Reply.{Carried, Reply, answer, refusal, nothing, frame, hop, ◌then◌}
use Rattle.time.specs.Order.{Dues, when, due_at, first_due, refused}
use Rattle.geometry.specs.declared.isometry.Isometry.{Isometry}
use Rattle.geometry.specs.Order.{inverse_due, overflow_due, pose_due}
use Rattle.buffer.specs.declared.coverage.Coverage.{Coverage}
use Rattle.buffer.specs.declared.coverage.Coverage.TheVariants.{AllTime, Range, Empty}
use Rattle.buffer.specs.Map.{all, get}
use Rattle.buffer.specs.Samples.{range}
use Rattle.buffer.specs.Kind.{kind_of}
use Rattle.registry.specs.Tree.{Tree, Limits, Addition, is_absent, ancestors, member, other_parent, current_parent, other_kind, updated_edge}
use Rattle.registry.specs.Store.{Store, tree_of, limits_of, sizes_fit, sized}
use Rattle.registry.specs.Sound.{sound}
use Rattle.registry.specs.Path.{Hop, side, connected, hops, known, fold, joined}
use Rattle.registry.specs.PathLaws.{path, cover, asked}
use Rattle.registry.specs.Calls.{open_of, add_of, wipe_of, lookup_of, common_time_of}

-- ---- "opening 1. Others begin 1, 2 where a store is lent."

abbrev pub open_order : List ℕ
open_order = 1 ∷ []

unfoldable pub open_due : Store → Limits → Dues
open_due s L = (1, when (not (sizes_fit L.rows L.capacity s)) nothing) ∷ []

abbrev pub OpenFirstDue : Type 0
OpenFirstDue = (s : Store) (L : Limits) → refused (open_of s L).reply ≡ first_due (open_due s L) open_order

-- the order of a call on a store that is lent, and what makes 1 and 2 due
abbrev pub lent : List ℕ → List ℕ
lent order = 1 ∷ 2 ∷ order

abbrev pub lent_due : Store → Dues → Dues
lent_due s dues = (1, when (not (sized s)) nothing) ∷ (2, when (not (sound s)) nothing) ∷ dues

-- ---- "Addition: 7, 3, 4, 5, 6, 8, 16, 17."

abbrev pub add_order : List ℕ
add_order = 7 ∷ 3 ∷ 4 ∷ 5 ∷ 6 ∷ 8 ∷ 16 ∷ 17 ∷ []

-- The table of noes, of an addition to a tree; 3 and 4 are the pose's.
unfoldable pub add_due : Limits → Tree → Addition → Dues
add_due L t a =
    let held = get t a.child in
    (5, when (eqb a.parent a.child) nothing)
    ∷ (6, when (other_parent held a.parent) (current_parent held))
    ∷ (7, when (is_absent held && member a.child (ancestors t a.parent)) nothing)
    ∷ (8, when (other_kind held (kind_of a.stamp)) nothing)
    ∷ (16, when (is_absent held && eqb (length t) L.rows) nothing)
    ∷ (17, when (ltb L.capacity (length (updated_edge L.age a held).samples)) nothing)
    ∷ pose_due a.pose

abbrev pub AddFirstDue : Type 0
AddFirstDue = (s : Store) (a : Addition)
    → refused (add_of s a).reply ≡ first_due (lent_due s (add_due (limits_of s) (tree_of s) a)) (lent add_order)

-- ---- of two frames; of a known frame and itself nothing is due, its path being empty

-- 9: "neither child nor parent; the frame", "target first"
abbrev pub unknown_due : Tree → ℕ → ℕ → Option Carried
unknown_due t target source = cond (known t target) (when (not (known t source)) (frame source)) (Some (frame target))

-- 10: "both known, no path"
abbrev pub apart_due : Tree → ℕ → ℕ → Option Carried
apart_due t target source = when (known t target && known t source && not (connected t target source)) nothing

-- ---- "Lookup: 9 (target first), 11, 10, 13, 14, 3."

abbrev pub lookup_order : List ℕ
lookup_order = 9 ∷ 11 ∷ 10 ∷ 13 ∷ 14 ∷ 3 ∷ []

-- a hop is served at the instant i: at all times, or inside its range
abbrev pub covers : Coverage → ℕ → Bool
covers AllTime i = true
covers (Range start end) i = leb start i && leb i end
covers Empty i = false

-- of the first hop that is at fault: "its child and range, if any"
abbrev pub first_hop : (Coverage → Bool) → List Hop → Option Carried
first_hop fault [] = None
first_hop fault (h ∷ hs) = cond (fault (cover h)) (Some (hop h.0 (range h.1.samples))) (first_hop fault hs)

-- 11: "first failing hop"
abbrev pub not_served_due : List Hop → ℕ → Option Carried
not_served_due hs i = first_hop (λ c. not (covers c i)) hs

-- 13, 14 and 3 of the inverse of the target side, where it has a pose
abbrev pub inverse_of : Reply (Option Isometry) → Dues
inverse_of (answer None) = []
inverse_of (answer (Some a)) = inverse_due a
inverse_of (refusal k c) = []

-- 3: that of the inverse, or "3 on the pose that comes out" (M-103)
unfoldable pub lookup_due : Tree → ℕ → ℕ → ℕ → Dues
lookup_due t target source i =
    let a = fold None (hops t (side t target source)) i in
    let b = fold None (hops t (side t source target)) i in
    (3, option_or (due_at (inverse_of a) 3) (overflow_due (a then λ x. b then λ y. joined x y)))
    ∷ (9, unknown_due t target source)
    ∷ (10, apart_due t target source)
    ∷ (11, not_served_due (asked t target source) i)
    ∷ (13, due_at (inverse_of a) 13)
    ∷ (14, due_at (inverse_of a) 14)
    ∷ []

abbrev pub LookupFirstDue : Type 0
LookupFirstDue = (s : Store) (target source i : ℕ)
    → refused (lookup_of s target source i) ≡ first_due (lent_due s (lookup_due (tree_of s) target source i)) (lent lookup_order)

-- ---- "Common time: 9, 10, 12."

abbrev pub common_time_order : List ℕ
common_time_order = 9 ∷ 10 ∷ 12 ∷ []

-- a moving hop that holds no pose
abbrev pub is_empty : Coverage → Bool
is_empty AllTime = false
is_empty (Range start end) = false
is_empty Empty = true

-- a hop has started at the instant i: a static one always, an empty one never
abbrev pub starts_by : ℕ → Coverage → Bool
starts_by i AllTime = true
starts_by i (Range start end) = leb start i
starts_by i Empty = false

-- a moving hop at whose start every hop has started, and not every hop is served: no instant is inside every moving hop's range
abbrev pub too_late : List Hop → Coverage → Bool
too_late hs AllTime = false
too_late hs (Range start end) = all (λ h. starts_by start (cover h)) hs && not (all (λ h. covers (cover h) start) hs)
too_late hs Empty = false

-- 12: "first empty hop, else first hop with the latest start"
abbrev pub no_common_due : List Hop → Option Carried
no_common_due hs = option_or (first_hop is_empty hs) (first_hop (too_late hs) hs)

unfoldable pub common_time_due : Tree → ℕ → ℕ → Dues
common_time_due t target source =
    (9, unknown_due t target source)
    ∷ (10, apart_due t target source)
    ∷ (12, no_common_due (path t target source))
    ∷ []

abbrev pub CommonTimeFirstDue : Type 0
CommonTimeFirstDue = (s : Store) (target source : ℕ)
    → refused (common_time_of s target source) ≡ first_due (lent_due s (common_time_due (tree_of s) target source)) (lent common_time_order)

-- ---- "Wipe: 9."

abbrev pub wipe_order : List ℕ
wipe_order = 9 ∷ []

-- 9: "wipe: not a child; the frame"
unfoldable pub wipe_due : Tree → ℕ → Dues
wipe_due t f = (9, when (is_absent (get t f)) (frame f)) ∷ []

abbrev pub WipeFirstDue : Type 0
WipeFirstDue = (s : Store) (f i : ℕ) → refused (wipe_of s f i).reply ≡ first_due (lent_due s (wipe_due (tree_of s) f)) (lent wipe_order)
