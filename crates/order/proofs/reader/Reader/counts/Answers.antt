use Rattle.std.proofs.Common.{◌+◌, ◌-◌, ◌∙◌, sym, arith}
use Rattle.std.proofs.lemmas.Result.{err_from_is_err_and}
use Rattle.order.specs.Format.{run, counts}
use Rattle.order.specs.declared.reader.Size.TheVariants.{Byte}
use Rattle.order.proofs.Due.{due_high, counts_go, counts_stop}
use Rattle.order.proofs.reader.Reader.counts.Goals as goal

pub returns-in_err-count : goal.returns-in_err-count
returns-in_err-count c =
    let p = err_from_is_err_and c.from_residual.result c.from_residual.ensures.1 in
    rw p.1 (λ next. rw p.2 (counts_stop c.args.self.file.now c.loop.reader.file.now c.loop.invariant.1 next c.args.pieces c.loop.counter c.loop.settings _ _ (omega arith) (c.loop.invariant.2 next) _ c.in_err-count.ensures))

pub loop-preserved : goal.loop-preserved
loop-preserved c =
    let d = c.in_ok-count.ensures in (
      omega (arith, due_high Byte 1 8 c.loop.reader.file.now c.loop.reader.at c.in_ok-count.count d.0, c.from-settings.ensures),
      d.1 ∙ c.loop.invariant.1,
      λ next.
          counts_go c.args.self.file.now c.loop.reader.file.now c.loop.invariant.1 next c.args.pieces c.loop.counter c.loop.settings c.loop.reader.at _ (omega arith) (c.loop.invariant.2 next) c.in_ok-count.count d.0
          ∙ (λ i. run (counts (c.args.pieces - (c.loop.counter + 1)) (c.loop.settings + sym c.from-settings.ensures i) next) c.args.self.file.now (sym d.2 i)),
    )
