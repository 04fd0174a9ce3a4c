use Rattle.std.proofs.Common.{Err, sym, ap, ◌∙◌, arith}
use Rattle.order.specs.Format.{run}
use Rattle.order.proofs.Due.{widths_there, widths_short}
use Rattle.order.proofs.reader.Reader.skip_widths.Goals as goal

pub returns-then-self-settings : goal.returns-then-self-settings
returns-then-self-settings c next =
    widths_short c.args.settings next c.args.self.file.now c.args.self.at c.args.self.bytes (omega arith) ∙ ap (λ e. Err e) (sym c.at.ensures)

pub returns : goal.returns
returns c = (
  c.behind.ensures.file,
  λ next. widths_there c.args.settings next c.args.self.file.now c.args.self.at c.args.self.bytes (omega arith) ∙ ap (run next c.args.self.file.now) (sym c.behind.ensures.at),
)
