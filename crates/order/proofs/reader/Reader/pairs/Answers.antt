use Rattle.std.proofs.Common.{◌∙◌, arith}
use Rattle.std.proofs.lemmas.Result.{err_from_is_err_and}
use Rattle.order.proofs.Due.{pairs_go, pairs_stop}
use Rattle.order.proofs.reader.Reader.pairs.Goals as goal

pub returns-in_err-reader : goal.returns-in_err-reader
returns-in_err-reader c =
    let p = err_from_is_err_and c.from_residual.result c.from_residual.ensures.1 in
    rw p.1 (λ next. rw p.2 (pairs_stop c.args.self.file.now c.loop.reader.file.now c.loop.invariant.0 next c.args.settings c.loop.counter c.loop.reader.at _ (omega arith) (c.loop.invariant.1 next) _ c.in_err-reader.ensures))

pub loop-preserved : goal.loop-preserved
loop-preserved c = (
  c.in_ok-reader.ensures.0 ∙ c.loop.invariant.0,
  λ next. pairs_go c.args.self.file.now c.loop.reader.file.now c.loop.invariant.0 next c.args.settings c.loop.counter c.loop.reader.at _ (omega arith) (c.loop.invariant.1 next) c.in_ok-reader.reader.at c.in_ok-reader.ensures.1,
)
