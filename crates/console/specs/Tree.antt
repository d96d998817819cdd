-- What `tree` says: the tree as an indented picture.
use Rattle.std.specs.Prelude.{ℕ, zero, suc, ◌+◌, Bool, cond, ◌&&◌, List, [], ◌∷◌, ◌++◌, length, replicate, ◌==◌, nat_le, nat_lt}
use Rattle.std.specs.Prelude.{Option, None, Some}
use Rattle.text.specs.Ascii.{ascii}
use Rattle.text.specs.Writing.{number_text}
use Rattle.buffer.specs.Map.{get}
use Rattle.registry.specs.Tree.{Edge, Tree, is_absent}
use Rattle.console.specs.Edges.{edge_texts}

-- two spaces a level
unfoldable pub indent_texts : ℕ → List (List ℕ)
indent_texts level = replicate level (ascii "  ")

-- a line for a child at a level
unfoldable pub line_texts : ℕ → ℕ × Edge → List (List ℕ)
line_texts level x = indent_texts level ++ (number_text x.0 ∷ ascii " " ∷ (edge_texts (ascii ", ") x.1 ++ (ascii "\n" ∷ [])))

-- the edges under a frame, in the order of their children
abbrev pub under : Tree → ℕ → Tree
under [] f = []
under (x ∷ t) f = cond (x.1.parent == f) (x ∷ under t f) (under t f)

-- the lines for these edges, each followed by those of the frames below its child, which `below` gives
abbrev pub lines_of : ℕ → (ℕ → List (List (List ℕ))) → Tree → List (List (List ℕ))
lines_of level below [] = []
lines_of level below (x ∷ xs) = line_texts level x ∷ (below x.0 ++ lines_of level below xs)

-- the lines of all frames below a frame, the first of which stand at a level; so many levels are followed
unfoldable pub below : ℕ → Tree → ℕ → ℕ → List (List (List ℕ))
below zero t level f = []
below (suc levels) t level f = lines_of level (below levels t (level + 1)) (under t f)

-- whether a frame is no child
abbrev pub is_root : Tree → ℕ → Bool
is_root t f = is_absent (get t f)

-- the lower of a frame and what was found before, if anything was
abbrev pub lower : Option ℕ → ℕ → Option ℕ
lower None f = Some f
lower (Some g) f = Some (cond (nat_lt f g) f g)

-- the lowest root from a number on among the parents of these edges, and what was found before; none: there is none
abbrev pub lowest_root : Tree → ℕ → Option ℕ → Tree → Option ℕ
lowest_root t from found [] = found
lowest_root t from found (x ∷ xs) =
    lowest_root t from (cond (nat_le from x.1.parent && is_root t x.1.parent) (lower found x.1.parent) found) xs

-- the texts of lines
abbrev pub joined_lines : List (List (List ℕ)) → List (List ℕ)
joined_lines [] = []
joined_lines (l ∷ ls) = l ++ joined_lines ls

-- a root on a line of its own, and the frames below it; a store has at most 256 edges, so no more levels
unfoldable pub root_texts : Tree → ℕ → List (List ℕ)
root_texts t f = number_text f ∷ ascii "\n" ∷ joined_lines (below 256 t 1 f)

-- nothing, or the texts for a frame that was found
abbrev pub if_found : (ℕ → List (List ℕ)) → Option ℕ → List (List ℕ)
if_found texts None = []
if_found texts (Some f) = texts f

-- the roots from a number on by rising number, so many of them
unfoldable pub roots_texts : ℕ → Tree → ℕ → List (List ℕ)
roots_texts zero t from = []
roots_texts (suc roots) t from = if_found (λ f. root_texts t f ++ roots_texts roots t (f + 1)) (lowest_root t from None t)

-- how many frames have a parent, and every frame below its parent; each root has a child, so there are at most 256
unfoldable pub tree_texts : Tree → List (List ℕ)
tree_texts t = ascii "frames with a parent: " ∷ number_text (length t) ∷ ascii "\n" ∷ roots_texts 256 t 0
