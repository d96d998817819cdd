use Rattle.std.proofs.Common.{refl, sym, ap, ◌∙◌, eq-eqb, ne_eqb}
use Rattle.registry.proofs.Held.{tree_rises}
use Rattle.console.proofs.OwnEdge.{own_of, own_edge}
use Rattle.console.proofs.edges.edge_of.Goals as goal

pub returns-in-Some : goal.returns-in-Some
returns-in-Some c = let s = c.args.store.now in
    sym (rw (eq-eqb _ _ c.if-edge-frame.true) refl) ∙ ap (own_of c.args.frame) (c.in-Some.ensures) ∙ own_edge _ (tree_rises _ s.sound) c.args.frame

pub returns-in_default : goal.returns-in_default
returns-in_default c = let s = c.args.store.now in
    sym (rw (ne_eqb _ _ c.if-edge-frame.false) refl) ∙ ap (own_of c.args.frame) (c.in-Some.ensures) ∙ own_edge _ (tree_rises _ s.sound) c.args.frame

pub returns-in_default-2 : goal.returns-in_default-2
returns-in_default-2 c = let s = c.args.store.now in
    ap (own_of c.args.frame) (c.in_default.ensures) ∙ own_edge _ (tree_rises _ s.sound) c.args.frame
