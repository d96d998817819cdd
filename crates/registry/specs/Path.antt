-- The path of two frames, and the questions that are asked along it: lookup and latest common time.
use Rattle.std.specs.Prelude.{ℕ, min, Bool, false, cond, not, ◌||◌, List, [], ◌∷◌, ◌++◌, eqb, ltb}
use Rattle.std.specs.Prelude.{Option, None, Some}
use Rattle.time.specs.Reply.{nothing, frame, hop, Reply, answer, refusal, refuse, ◌then◌}
use Rattle.geometry.specs.declared.isometry.Isometry.{Isometry}
use Rattle.geometry.specs.Isometry.{identity, finite, product, inverse}
use Rattle.buffer.specs.Map.{get}
use Rattle.buffer.specs.declared.coverage.Coverage.{Coverage}
use Rattle.buffer.specs.declared.coverage.Coverage.TheVariants.{AllTime, Range, Empty}
use Rattle.buffer.specs.Samples.{coverage, served}
use Rattle.registry.specs.Tree.{Edge, Tree, is_absent, ancestors, member}
use Rattle.registry.specs.Answers.{Value, pose, static, at}

-- ---- paths

-- a frame and those above it
abbrev pub chain : Tree → ℕ → List ℕ
chain t f = f ∷ ancestors t f

-- those before the first that passes
abbrev pub until : (ℕ → Bool) → List ℕ → List ℕ
until test [] = []
until test (x ∷ xs) = cond (test x) [] (x ∷ until test xs)

abbrev pub any : (ℕ → Bool) → List ℕ → Bool
any test [] = false
any test (x ∷ xs) = test x || any test xs

-- f and the frames above it, up to the frame where its climb meets g's
unfoldable pub side : Tree → ℕ → ℕ → List ℕ
side t f g = until (λ x. member x (chain t g)) (chain t f)

unfoldable pub connected : Tree → ℕ → ℕ → Bool
connected t f g = any (λ x. member x (chain t g)) (chain t f)

-- of x and xs the first that passes, or the last where none does
abbrev pub first_or_last : (ℕ → Bool) → ℕ → List ℕ → ℕ
first_or_last test x [] = x
first_or_last test x (y ∷ ys) = cond (test x) x (first_or_last test y ys)

-- the frame at which the climb from f ends: the first of its chain that is g or above g, or the root where there is none
unfoldable pub climb_end : Tree → ℕ → ℕ → ℕ
climb_end t f g = first_or_last (λ x. member x (chain t g)) f (ancestors t f)

-- a hop: a child and its edge to its parent
abbrev pub Hop : Type 0
Hop = ℕ × Edge

abbrev pub hop_then : ℕ → Option Edge → List Hop → List Hop
hop_then x None rest = rest
hop_then x (Some e) rest = (x, e) ∷ rest

-- the hops of the children among these frames
abbrev pub hops : Tree → List ℕ → List Hop
hops t [] = []
hops t (x ∷ xs) = hop_then x (get t x) (hops t xs)

-- ---- the form of both questions

abbrev pub is_parent : ℕ → Tree → Bool
is_parent f [] = false
is_parent f (x ∷ t) = eqb x.1.parent f || is_parent f t

-- a child or a parent
abbrev pub known : Tree → ℕ → Bool
known t f = not (is_absent (get t f)) || is_parent f t

-- 9 for an unknown frame, the target first, so that "Equal names that are neither child nor parent get 9" (M-102); then one answer for a frame and
-- itself; else what the two sides of the path give, or, without a path, what the two climbs to the roots give.
unfoldable pub ask : Tree → ℕ → ℕ → Value → (List Hop → List Hop → Reply Value) → (List Hop → List Hop → Reply Value) → Reply Value
ask t target source same along apart =
    refuse (not (known t target)) 9 (frame target)
    (refuse (not (known t source)) 9 (frame source)
    (cond (eqb target source) (answer same)
    (cond (connected t target source)
    (along (hops t (side t target source)) (hops t (side t source target)))
    (apart (hops t (chain t target)) (hops t (chain t source))))))

-- ---- lookup

-- with the parent's pose on the left
abbrev pub onto : Isometry → Option Isometry → Isometry
onto p None = p
onto p (Some below) = product p below

-- the product of a side's poses at the instant, none for an empty side; 11 for the first hop that is not served
abbrev pub fold : Option Isometry → List Hop → ℕ → Reply (Option Isometry)
fold below [] i = answer below
fold below (h ∷ hs) i = served h.0 h.1.kind h.1.samples i then λ p. fold (Some (onto p below)) hs i

-- inverse(target side) times source side; an empty side is left out
abbrev pub joined : Option Isometry → Option Isometry → Reply Isometry
joined None None = answer identity
joined None (Some source) = answer source
joined (Some target) None = inverse target
joined (Some target) (Some source) = inverse target then λ back. answer (product back source)

-- "reckoned through as in document 01", with 13, 14 and 3 of the inverse, then "3 on the pose that comes out" (M-103)
abbrev pub combined : Option Isometry → Option Isometry → Reply Value
combined target source = joined target source then λ out. finite out then λ p. answer (pose p)

-- 11 in path order, then what the two sides come to
abbrev pub lookup_along : ℕ → List Hop → List Hop → Reply Value
lookup_along i target source =
    fold None target i then λ a.
    fold None source i then λ b.
    combined a b

-- without a path: 11 on the climb from the target to its root, then from the source to its, else 10
abbrev pub lookup_apart : ℕ → List Hop → List Hop → Reply Value
lookup_apart i target source =
    fold None target i then λ a.
    fold None source i then λ b.
    refusal 10 nothing

-- the source's pose seen from the target
unfoldable pub lookup : Tree → ℕ → ℕ → ℕ → Reply Value
lookup t target source i = ask t target source (pose identity) (lookup_along i) (lookup_apart i)

-- ---- latest common time

-- a moving hop: its child, and its range from first to last instant
pub record Span : Type 0 where
  pub child : ℕ
  pub start : ℕ
  pub end : ℕ

abbrev pub span_then : ℕ → Coverage → Reply (List Span) → Reply (List Span)
span_then child AllTime rest = rest
span_then child (Range start end) rest = rest then λ spans. answer (record { child = child; start = start; end = end } ∷ spans)
span_then child Empty rest = refusal 12 (hop child None)

-- the ranges of the moving hops; 12 for the first empty hop
abbrev pub spans : List Hop → Reply (List Span)
spans [] = answer []
spans (h ∷ hs) = span_then h.0 (coverage h.1.kind h.1.samples) (spans hs)

abbrev pub earliest_end : ℕ → List Span → ℕ
earliest_end end [] = end
earliest_end end (x ∷ xs) = earliest_end (min end x.end) xs

-- the first with the latest start
abbrev pub latest_start : Span → List Span → Span
latest_start late [] = late
latest_start late (x ∷ xs) = latest_start (cond (ltb late.start x.start) x late) xs

-- The earliest end, where no range starts after it; else 12 for the first hop with the latest start. Static when every hop is static.
abbrev pub meet : List Span → Reply Value
meet [] = answer static
meet (x ∷ xs) =
    let end = earliest_end x.end xs in
    let late = latest_start x xs in
    refuse (ltb end late.start) 12 (hop late.child (Some (late.start, late.end))) (answer (at end))

-- the latest instant that every hop serves
unfoldable pub common_time : Tree → ℕ → ℕ → Reply Value
common_time t target source = ask t target source static (λ a b. spans (a ++ b) then meet) (λ a b. refusal 10 nothing)
