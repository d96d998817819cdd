-- What `why` says: the path of a lookup, hop by hop.
use Rattle.std.specs.Prelude.{ℕ, Bool, true, false, cond, ◌&&◌, List, [], ◌∷◌, ◌++◌, length, ◌==◌, nat_eq, nat_le}
use Rattle.time.specs.Reply.{Reply, answer, refusal}
use Rattle.buffer.specs.declared.coverage.Coverage.{Coverage}
use Rattle.buffer.specs.declared.coverage.Coverage.TheVariants.{AllTime, Range, Empty}
use Rattle.buffer.specs.Samples.{coverage}
use Rattle.text.specs.Ascii.{ascii}
use Rattle.registry.specs.Tree.{Tree}
use Rattle.registry.specs.Answers.{Value}
use Rattle.registry.specs.Answers as value
use Rattle.registry.specs.Path.{Hop, chain, until, climb_end, hops, lookup, common_time}
use Rattle.registry.specs.Calls.{on_tree}
use Rattle.registry.specs.Store.{Store}
use Rattle.console.specs.Figures.{seconds_texts, frame_texts}
use Rattle.console.specs.Refusals.{refusal_texts, refusal_number}
use Rattle.console.specs.Show.{question_texts}
use Rattle.console.specs.Edges.{coverage_texts}

-- ---- the hops

-- whether an edge is served at an instant: a static one always, a moving one inside its range
abbrev pub served_at : ℕ → Coverage → Bool
served_at i AllTime = true
served_at i (Range start end) = nat_le start i && nat_le i end
served_at i Empty = false

-- a line for a hop by what is told of its edge: its child and parent, its kind and range, and whether it is served at the instant
unfoldable pub told_line : ℕ → ℕ → ℕ → ℕ → Coverage → List (List ℕ)
told_line i child parent count times =
    ascii "  " ∷ (frame_texts child ++ (ascii " under " ∷ (frame_texts parent ++ (ascii ", " ∷ (coverage_texts (ascii ", ") count times
    ++ (cond (served_at i times) (ascii ": served\n") (ascii ": not served\n") ∷ []))))))

-- the same of a hop of a tree
abbrev pub hop_line : ℕ → Hop → List (List ℕ)
hop_line i h = told_line i h.0 h.1.parent (length h.1.samples) (coverage h.1.kind h.1.samples)

-- a line for each hop, in their order
unfoldable pub hop_lines : ℕ → List Hop → List (List ℕ)
hop_lines i [] = []
hop_lines i (h ∷ hs) = hop_line i h ++ hop_lines i hs

-- ---- the climbs

-- which climb follows, from which frame to which
unfoldable pub climb_texts : List ℕ → ℕ → ℕ → List (List ℕ)
climb_texts name f end =
    ascii "from the " ∷ name ∷ ascii ", " ∷ (frame_texts f ++ cond (f == end) (ascii ": no hop\n" ∷ []) (ascii ", up to " ∷ (frame_texts end ++ (ascii ":\n" ∷ []))))

-- the climb from f, up to where it meets that from g, or to its root
unfoldable pub side_texts : List ℕ → Tree → ℕ → ℕ → ℕ → List (List ℕ)
side_texts name t f g i = climb_texts name f (climb_end t f g) ++ hop_lines i (hops t (until (nat_eq (climb_end t f g)) (chain t f)))

-- where the climbs meet, if they end at one frame
unfoldable pub meeting_texts : ℕ → ℕ → List (List ℕ)
meeting_texts x y = cond (x == y) (ascii "the climbs meet at " ∷ (frame_texts x ++ (ascii "\n" ∷ []))) (ascii "the climbs do not meet\n" ∷ [])

-- ---- the answers

-- the latest common time, or why there is none
abbrev pub time_texts : Reply Value → List (List ℕ)
time_texts (answer value.static) = ascii "any, no hop moves" ∷ []
time_texts (answer (value.at i)) = seconds_texts i
time_texts (answer value.done) = []
time_texts (answer (value.pose p)) = []
time_texts (refusal k c) = refusal_texts (refusal k c)

-- that on a line of its own
unfoldable pub common_texts : Reply Value → List (List ℕ)
common_texts r = ascii "latest common time: " ∷ (time_texts r ++ (ascii "\n" ∷ []))

-- that the lookup is answered, or why not
abbrev pub outcome_texts : Reply Value → List (List ℕ)
outcome_texts (answer v) = ascii "answered" ∷ []
outcome_texts (refusal k c) = refusal_texts (refusal k c)

-- that on a line of its own
unfoldable pub lookup_texts : Reply Value → List (List ℕ)
lookup_texts r = ascii "lookup: " ∷ (outcome_texts r ++ (ascii "\n" ∷ []))

-- both climbs, where they meet, the latest common time and the lookup
unfoldable pub path_texts : Tree → ℕ → ℕ → ℕ → List (List ℕ)
path_texts t target source i =
    side_texts (ascii "target") t target source i
    ++ (side_texts (ascii "source") t source target i
    ++ (meeting_texts (climb_end t target source) (climb_end t source target)
    ++ (common_texts (common_time t target source) ++ lookup_texts (lookup t target source i))))

-- of a tree: all that, or the lookup's refusal alone where a frame is unknown (9)
unfoldable pub tree_texts : Tree → ℕ → ℕ → ℕ → List (List ℕ)
tree_texts t target source i =
    cond (refusal_number (lookup t target source i) == 9) (lookup_texts (lookup t target source i)) (path_texts t target source i)

-- of a store, which is tested first: all that of its tree, or the store's refusal
abbrev pub behind_question : ℕ → ℕ → ℕ → Reply Tree → List (List ℕ)
behind_question target source i (answer t) = tree_texts t target source i
behind_question target source i (refusal k c) = lookup_texts (refusal k c)

-- the question, and what follows it
unfoldable pub why_texts : ℕ → ℕ → ℕ → Store → List (List ℕ)
why_texts target source i s = question_texts target source i ++ behind_question target source i (on_tree s (λ L t. answer t))
