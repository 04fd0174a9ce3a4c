use Rattle.std.proofs.Common.{◌+◌, ◌*◌, length, drop, ap, ◌∙◌, arith}
use Rattle.std.proofs.lemmas.List.{drop-drop}
use Rattle.order.proofs.Filed.{amount_made, number_here}
use Rattle.order.proofs.filling.read_amounts.Goals as goal

pub loop-amount-preserved : goal.loop-amount-preserved
loop-amount-preserved g c =
    let f = g.M.Filed.filing c.args.m.now in
    let i = c.loop-amount.amount-index in
    let pairs = c.args.pairs.now in
    let here = c.loop-amount.invariant.0 in
    let front = c.split_at.ensures.front in
    let marks = c.pair_at.ensures ∙ number_here pairs _ _ i 0 (4 * i) here front (omega arith) (omega arith) in
    let depth = c.pair_at-in-loop-amount.ensures ∙ number_here pairs _ _ i 2 (4 * i + 2) here front (omega arith) (omega arith) in (
      c.split_at.ensures.back ∙ ap (drop 4) here ∙ drop-drop 4 (4 * i) pairs ∙ ap (λ n. drop n pairs) (omega arith),
      amount_made f pairs i (length c.args.amounts.now) c.loop-amount.amounts c.amount.result (omega arith) (omega arith) (c.amount.ensures ∙ (λ j. f.amount (marks j) (depth j))) c.loop-amount.invariant.1,
    )
