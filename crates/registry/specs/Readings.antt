-- The readings of document 01 that are marked P: what the definitions give, beside what is expected, as rows of one table.
-- Proved in proofs/Readings.antt, where each row is computed.
use Rattle.std.specs.Prelude.{ℕ, ◌+◌, ◌^◌, ◌≡◌, false, List, [], ◌∷◌, negsuc, replicate, get_or, Float}
use Rattle.std.specs.Prelude.{Option, None, Some}
use Rattle.std.specs.Float.{nan, fin, binary64}
use Rattle.std.specs.Float.Ieee.{round}
use Rattle.time.specs.declared.stamp.Stamp.TheVariants.{Static, At}
use Rattle.time.specs.Float.{whole, zero64, one64}
use Rattle.time.specs.Reply.{Reply, answer, refusal, nothing, norm, hop}
use Rattle.geometry.specs.declared.isometry.Isometry.{Isometry}
use Rattle.libm.specs.Sqrt.{sqrt}
use Rattle.geometry.specs.Isometry.{identity}
use Rattle.registry.specs.Tree.{Limits, Addition, addition}
use Rattle.registry.specs.Store.{Store, row_instants}
use Rattle.registry.specs.Answers.{Value, done, pose, at}
use Rattle.registry.specs.Calls.{open_of, add_of, lookup_of, common_time_of}
use Rattle.registry.specs.History.{run}

-- a float, a reply, or the instants of a row
pub data Seen : Type 0 where
  float : Float → Seen
  reply : Reply Value → Seen
  instants : List ℕ → Seen

-- a translation along x without a turn; a rotation (w, 0, 0, 0)
abbrev pub moved : Float → Isometry
moved x = record { translation = record { x = x; y = zero64; z = zero64 }; rotation = identity.rotation }

abbrev pub turned : Float → Isometry
turned w = record { translation = identity.translation; rotation = record { w = w; x = zero64; y = zero64; z = zero64 } }

-- 1 + k / 2 ^ 52
abbrev pub above : ℕ → Float
above k = round binary64 false (2 ^ 52 + k) (2 ^ 52)

abbrev pub limits : Option ℕ → Limits
limits age = record { rows = 2; capacity = 2; age = age }

-- lent words for two rows of two samples, opened
abbrev pub opened : Option ℕ → Store
opened age = (open_of (record { head = replicate 13 7; instants = replicate 4 7; poses = replicate 28 nan }) (limits age)).store

-- after these additions
abbrev pub after : Option ℕ → List Addition → Store
after age xs = run add_of (opened age) xs

-- what the next addition replies
abbrev pub next : List Addition → Addition → Seen
next xs a = reply (add_of (after None xs) a).reply

-- child 2 under 1, moving, at these instants
abbrev pub row2 : ℕ → Addition
row2 i = addition 2 1 (At i) identity

-- child 2 under 1 from a to b, and 3 under 2 from c to d
abbrev pub ranges : ℕ → ℕ → ℕ → ℕ → Store
ranges a b c d = after None (row2 a ∷ row2 b ∷ addition 3 2 (At c) identity ∷ addition 3 2 (At d) identity ∷ [])

-- x 0 at instant 0 and 4 at 4000000000
abbrev pub drive : Store
drive = after None (addition 2 1 (At 0) (moved zero64) ∷ addition 2 1 (At 4000000000) (moved (whole 4)) ∷ [])

pub record Row : Type 0 where
  pub given : Seen
  pub expected : Seen

abbrev pub row : Seen → Seen → Row
row given expected = record { given = given; expected = expected }

-- a row of the table holds
abbrev pub Holds : Row → Type 0
Holds r = r.given ≡ r.expected

unfoldable pub readings : List Row
readings =
    row (float (sqrt zero64)) (float zero64)
    ∷ row (float (sqrt (whole 4))) (float (whole 2))
    ∷ row (float (sqrt (fin false 1 (negsuc 1073)))) (float (fin false 1 (negsuc 536)))
    ∷ row (next [] (addition 2 1 Static (turned (above 4503599627)))) (reply (answer done))
    ∷ row (next [] (addition 2 1 Static (turned (above 4503599628)))) (reply (refusal 4 (norm (above 4503599628))))
    ∷ row (instants (row_instants (after (Some 5) (row2 10 ∷ row2 5 ∷ [])) 0)) (instants (5 ∷ 10 ∷ []))
    ∷ row (instants (row_instants (after (Some 5) (row2 10 ∷ row2 4 ∷ [])) 0)) (instants (10 ∷ 0 ∷ []))
    ∷ row (reply (lookup_of drive 1 2 1000000000)) (reply (answer (pose (moved one64))))
    ∷ row (reply (lookup_of drive 1 2 4000000001)) (reply (refusal 11 (hop 2 (Some (0, 4000000000)))))
    ∷ row (reply (common_time_of (ranges 10 20 20 30) 3 1)) (reply (answer (at 20)))
    ∷ row (reply (common_time_of (ranges 20 30 10 19) 3 1)) (reply (refusal 12 (hop 2 (Some (20, 30)))))
    ∷ row (next (addition 2 1 Static identity ∷ []) (addition 1 2 Static (moved nan))) (reply (refusal 7 nothing))
    ∷ row (next [] (addition 3 3 Static identity)) (reply (refusal 5 nothing))
    ∷ []

-- the row at a place
abbrev pub reading_at : ℕ → Row
reading_at k = get_or readings k (row (float nan) (float nan))

-- every row of the table holds
abbrev pub AllHold : List Row → Type 0
AllHold [] = Unit {0}
AllHold (r ∷ rows) = Holds r × AllHold rows

abbrev pub ReadingsHold : Type 0
ReadingsHold = AllHold readings
