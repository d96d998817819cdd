use Rattle.std.proofs.Common.{◌≡◌, ◌+◌, ◌-◌, suc, ap, arith}
use Rattle.std.specs.Prelude.{replicate}
use Rattle.text.specs.Ascii.{ascii}
use Rattle.console.specs.Tree.{indent_texts}
use Rattle.console.proofs.Turns.{leads_start, leads_on, leads_end}
use Rattle.console.proofs.tree.put_indent.Goals as goal

pub loop-init : goal.loop-init
unfolding indent_texts
loop-init c =
    let all : c.args.level - 0 ≡ c.args.level = omega arith in
    leads_start (ap (λ n. replicate n (ascii "  ")) all)

pub loop-preserved : goal.loop-preserved
loop-preserved c = let l = c.loop in
    let one_more : c.args.level - l.counter ≡ suc (c.args.level - (l.counter + 1)) = omega (arith, c.loop-test.true) in
    leads_on l.invariant (ap (λ n. replicate n (ascii "  ")) one_more) c.write_bytes.ensures

pub returns : goal.returns
returns c = let l = c.loop in
    let none_more : c.args.level - l.counter ≡ 0 = omega (arith, c.loop-test.false) in
    leads_end l.invariant (ap (λ n. replicate n (ascii "  ")) none_more)
