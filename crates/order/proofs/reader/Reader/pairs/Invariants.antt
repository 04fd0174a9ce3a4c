use Rattle.std.proofs.Common.{◌≡◌, ◌-◌}
use Rattle.order.specs.Format.{Format, run, pairs}
use Rattle.order.proofs.reader.Reader.pairs.Given as goal

-- what is left of the pairs stands at the reader's place
abbrev pub invariant-loop : goal.invariant-loop
invariant-loop l =
    (l.reader.file.now ≡ l.self.file.now)
    × ((next : Format) → run (pairs l.settings next) l.self.file.now l.self.at ≡ run (pairs (l.settings - l.counter) next) l.self.file.now l.reader.at)
