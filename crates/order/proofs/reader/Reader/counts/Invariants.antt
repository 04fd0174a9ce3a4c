use Rattle.std.proofs.Common.{◌≡◌, ℕ, ◌-◌, ◌*◌, ◌≤◌}
use Rattle.order.specs.Format.{Format, run, counts}
use Rattle.order.proofs.reader.Reader.counts.Given as goal

-- what is counted so far, and that what is left of the counts stands at the reader's place
abbrev pub invariant-loop : goal.invariant-loop
invariant-loop l =
    (l.settings ≤ 8 * l.counter)
    × (l.reader.file.now ≡ l.self.file.now)
    × ((next : ℕ → Format) → run (counts l.pieces 0 next) l.self.file.now l.self.at ≡ run (counts (l.pieces - l.counter) l.settings next) l.self.file.now l.reader.at)
