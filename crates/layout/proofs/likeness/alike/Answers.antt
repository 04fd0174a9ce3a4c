use Rattle.std.proofs.Common.{rules}
use Rattle.std.proofs.lemmas.Iterator.{YieldsList-from_slice, YieldsList-from_zip, cases_from_all}
use borrow.Author.Tests.{tests}
use Rattle.layout.proofs.Agreeing.{Same, Differ, alike_from_pairs}
use Rattle.layout.proofs.likeness.alike.Goals as goal

pub returns-then-xs-ys : goal.returns-then-xs-ys
returns-then-xs-ys c =
    let xs = c.args.xs.now in
    let ys = c.args.ys.now in
    alike_from_pairs xs ys c.all.result c.if-xs-ys.true
    (cases_from_all c.all.new.self _ _ Same Differ c.all.ensures.ran (YieldsList-from_zip (YieldsList-from_slice xs cc) (YieldsList-from_slice ys cc)) (λ x q k. search (rules, tests)) (λ x q k. search (rules, tests)))
