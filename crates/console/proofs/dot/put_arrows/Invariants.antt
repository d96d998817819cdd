use Rattle.registry.specs.Edges.{edges_left}
use Rattle.console.specs.Dot.{arrows_texts}
use Rattle.console.specs.Reading.{tree_in}
use Rattle.console.proofs.Turns.{Leads}
use Rattle.console.proofs.ToldTexts.{told_arrows}
use Rattle.console.proofs.dot.put_arrows.Given as goal

-- the arrows of the edges that are left are to be written
abbrev pub invariant-loop-edge : goal.invariant-loop-edge
invariant-loop-edge l = Leads l.fn.out l.out (arrows_texts (tree_in l.store)) (told_arrows (edges_left l.edge-iterator))
