use Rattle.std.proofs.Common.{◌≡◌, length, is_some, Some, ap, subst, arith, rules}
use Rattle.std.proofs.lemmas.Bool.Decides.{Decides-at}
use Rattle.layout.specs.Readings.{Begins}
use Rattle.layout.proofs.Cells.{most_entries}
use Rattle.layout.proofs.Collect.{starts_first, found}
use Rattle.layout.proofs.reading.is_layout.Goals as goal

pub returns-then-entries-gt-MOST_ENTRIES : goal.returns-then-entries-gt-MOST_ENTRIES
returns-then-entries-gt-MOST_ENTRIES c = (λ e. absurd (grind arith), λ s. absurd (omega (arith, most_entries s.0 s.1.tellable, ap length s.1.spelt)))

pub returns-then-eq : goal.returns-then-eq
returns-then-eq c =
    let first : c.last_layout.result ≡ Some 0 = search rules in
    Decides-at c.is_some.result (is_some c.piece_set.result) c.is_some.ensures (found c.args.entries.now c.piece_set.result (subst (Begins c.args.entries.now) first c.last_layout.ensures) c.piece_set.ensures)

pub returns-else-eq : goal.returns-else-eq
returns-else-eq c =
    (λ e. absurd (grind arith), λ s. let first = starts_first c.args.entries.now s.0 c.last_layout.result s.1 c.last_layout.ensures in search rules)
