-- Refusals in words: lists of texts that are written one behind the other.
use Rattle.std.specs.Prelude.{ℕ, List, [], ◌∷◌, ◌++◌, slice_index_or}
use Rattle.std.specs.Prelude.{Option, None, Some}
use Rattle.time.specs.Reply.{Reply, Carried, answer, refusal, nothing, norm, frame, hop}
use Rattle.registry.specs.Answers.{Value}
use Rattle.text.specs.Ascii.{ascii}
use Rattle.text.specs.Writing.{number_text}
use Rattle.console.specs.Figures.{figure_texts, seconds_texts, frame_texts}

-- the words of each number in document 01's table of noes, and before them, at 0, those of a number that has none
abbrev pub table : List (List ℕ)
table =
    ascii "a refusal without words"
    ∷ ascii "the sizes or the lengths of the slices are wrong"
    ∷ ascii "the store is unsound: its words break a rule"
    ∷ ascii "a component is not finite"
    ∷ ascii "the rotation is not a unit"
    ∷ ascii "a frame cannot be its own parent"
    ∷ ascii "the child is held under another parent"
    ∷ ascii "the child is already above its parent: a circle"
    ∷ ascii "static and moving samples do not mix in one frame"
    ∷ ascii "the frame is unknown"
    ∷ ascii "no path connects the frames"
    ∷ ascii "a frame on the way is not served at this instant"
    ∷ ascii "the frames have no common time"
    ∷ ascii "the norm of the rotation is not finite"
    ∷ ascii "the rotation is zero"
    ∷ ascii "time runs backwards"
    ∷ ascii "the tree is full"
    ∷ ascii "the row is full"
    ∷ ascii "this is no map file, or it is damaged"
    ∷ ascii "the store already holds a frame"
    ∷ []

-- the words of a number
unfoldable pub words : ℕ → List ℕ
words k = slice_index_or table k (ascii "a refusal without words")

-- a number, and what it means
unfoldable pub number_texts : ℕ → List (List ℕ)
number_texts k = ascii "refused with " ∷ number_text k ∷ ascii ": " ∷ words k ∷ []

-- a frame, and the range that it is served in, if it holds any sample
unfoldable pub hop_texts : ℕ → Option (ℕ × ℕ) → List (List ℕ)
hop_texts child None = frame_texts child ++ (ascii " holds no sample" ∷ [])
hop_texts child (Some r) = frame_texts child ++ (ascii " is served from " ∷ (seconds_texts r.0 ++ (ascii " to " ∷ seconds_texts r.1)))

-- what a refusal carries, if it carries anything
abbrev pub carried_texts : Carried → List (List ℕ)
carried_texts nothing = []
carried_texts (norm x) = ascii "; the norm is " ∷ figure_texts x
carried_texts (frame f) = ascii "; " ∷ frame_texts f
carried_texts (hop child range) = ascii "; " ∷ hop_texts child range

-- a refusal whole, and nothing for any other answer
abbrev pub refusal_texts : Reply Value → List (List ℕ)
refusal_texts (answer v) = []
refusal_texts (refusal k c) = number_texts k ++ carried_texts c

-- the number of a refusal, and 0 for any other answer
abbrev pub refusal_number : Reply Value → ℕ
refusal_number (answer v) = 0
refusal_number (refusal k c) = k
