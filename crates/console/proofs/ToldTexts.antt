-- The texts of a tree's edges by what is told of them.
use Rattle.std.proofs.Common.{map, ◌≡◌, ℕ, List, [], ◌∷◌, ◌++◌, refl, ap}
use Rattle.text.specs.Ascii.{ascii}
use Rattle.text.specs.Writing.{number_text}
use Rattle.registry.specs.Tree.{Edge, Tree}
use Rattle.console.specs.Edges.{coverage_texts, edge_texts}
use Rattle.console.specs.Dot.{style_text, arrow_texts, arrows_texts}
use Rattle.console.specs.Tree.{indent_texts, line_texts}
use Rattle.registry.specs.NextEdge.{told_edge}
use Rattle.registry.specs.declared.checked.Edge.{Edge as Told}

-- ---- arrows

abbrev pub told_arrow : Told → List (List ℕ)
told_arrow y =
    ascii "  " ∷ number_text y.parent ∷ ascii " -> " ∷ number_text y.child ∷ ascii " [label=\" " ∷ (coverage_texts (ascii "\\l ") y.count y.coverage ++ (style_text y.coverage ∷ []))

abbrev pub told_arrows : List Told → List (List ℕ)
told_arrows [] = []
told_arrows (y ∷ ys) = told_arrow y ++ told_arrows ys

pub arrows_told : (t : Tree) → told_arrows (map told_edge t) ≡ arrows_texts t
unfolding arrows_texts arrow_texts edge_texts
arrows_told [] = refl
arrows_told (x ∷ t) = ap (λ ts. told_arrow (told_edge x) ++ ts) (arrows_told t)

-- ---- a line

abbrev pub told_line : ℕ → Told → List (List ℕ)
told_line level y = indent_texts level ++ (number_text y.child ∷ ascii " " ∷ (coverage_texts (ascii ", ") y.count y.coverage ++ (ascii "\n" ∷ [])))

pub line_told : (level : ℕ) (x : ℕ × Edge) → told_line level (told_edge x) ≡ line_texts level x
unfolding line_texts edge_texts
line_told level x = refl
