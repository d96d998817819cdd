-- What `dot` says: the tree for Graphviz.
use Rattle.std.specs.Prelude.{ℕ, List, [], ◌∷◌, ◌++◌}
use Rattle.buffer.specs.declared.coverage.Coverage.{Coverage}
use Rattle.buffer.specs.declared.coverage.Coverage.TheVariants.{AllTime, Range, Empty}
use Rattle.buffer.specs.Samples.{coverage}
use Rattle.text.specs.Ascii.{ascii}
use Rattle.text.specs.Writing.{number_text}
use Rattle.registry.specs.Tree.{Edge, Tree}
use Rattle.console.specs.Edges.{edge_texts}

-- how an edge is drawn: dashed where it is static
abbrev pub style_text : Coverage → List ℕ
style_text AllTime = ascii "\\l\", style=dashed];\n"
style_text (Range start end) = ascii "\\l\"];\n"
style_text Empty = ascii "\\l\"];\n"

-- a line for an edge: an arrow from the parent to the child
unfoldable pub arrow_texts : ℕ × Edge → List (List ℕ)
arrow_texts x =
    ascii "  " ∷ number_text x.1.parent ∷ ascii " -> " ∷ number_text x.0 ∷ ascii " [label=\" " ∷ (edge_texts (ascii "\\l ") x.1 ++ (style_text (coverage x.1.kind x.1.samples) ∷ []))

-- the edges in the order of their children
unfoldable pub arrows_texts : Tree → List (List ℕ)
arrows_texts [] = []
arrows_texts (x ∷ t) = arrow_texts x ++ arrows_texts t

-- how frames and their edges are drawn
abbrev pub head_texts : List (List ℕ)
head_texts = ascii "digraph transforms {\n" ∷ ascii "  node [shape=box, fontname=\"sans-serif\"];\n" ∷ ascii "  edge [fontname=\"sans-serif\", fontsize=10];\n" ∷ []

-- the whole graph
unfoldable pub dot_texts : Tree → List (List ℕ)
dot_texts t = head_texts ++ (arrows_texts t ++ (ascii "}\n" ∷ []))
