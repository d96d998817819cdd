-- What is told of an edge: its kind, how many samples it holds and their range.
use Rattle.std.specs.Prelude.{ℕ, cond, List, [], ◌∷◌, ◌++◌, length, ◌==◌}
use Rattle.time.specs.Reply.{Reply, answer, refusal}
use Rattle.buffer.specs.declared.coverage.Coverage.{Coverage}
use Rattle.buffer.specs.declared.coverage.Coverage.TheVariants.{AllTime, Range, Empty}
use Rattle.buffer.specs.Samples.{coverage}
use Rattle.text.specs.Ascii.{ascii}
use Rattle.text.specs.Writing.{number_text}
use Rattle.registry.specs.Tree.{Edge, Tree}
use Rattle.registry.specs.Store.{Store}
use Rattle.registry.specs.Calls.{on_tree}
use Rattle.console.specs.Figures.{seconds_texts}
use Rattle.console.specs.Refusals.{refusal_texts}

-- `1 sample`, `2 samples`
abbrev pub samples_texts : ℕ → List (List ℕ)
samples_texts n = number_text n ∷ cond (n == 1) (ascii " sample") (ascii " samples") ∷ []

-- the kind, the count of samples and their range, with the bytes that stand between these three
abbrev pub coverage_texts : List ℕ → ℕ → Coverage → List (List ℕ)
coverage_texts between count AllTime = ascii "static" ∷ []
coverage_texts between count (Range start end) =
    ascii "moving" ∷ between ∷ (samples_texts count ++ (between ∷ (seconds_texts start ++ (ascii " to " ∷ seconds_texts end))))
coverage_texts between count Empty = ascii "moving" ∷ between ∷ ascii "no sample" ∷ []

-- the same of an edge of a tree
unfoldable pub edge_texts : List ℕ → Edge → List (List ℕ)
edge_texts between e = coverage_texts between (length e.samples) (coverage e.kind e.samples)

-- what is told of a tree, or a refusal on a line of its own
abbrev pub told_of : (Tree → List (List ℕ)) → Reply Tree → List (List ℕ)
told_of texts (answer t) = texts t
told_of texts (refusal k c) = refusal_texts (refusal k c) ++ (ascii "\n" ∷ [])

-- what is told of the tree of a store, which is tested first
unfoldable pub told_of_store : (Tree → List (List ℕ)) → Store → List (List ℕ)
told_of_store texts s = told_of texts (on_tree s (λ L t. answer t))
