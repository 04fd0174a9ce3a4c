-- What a reader of an order file answers, by what may stand in the file from its place on. The steps of a check promise in these terms.
use Rattle.std.specs.Prelude.{◌≡◌, ℕ, ◌+◌, Ok, Err, Result}
use Rattle.fault.specs.declared.refusal.Fault.{Fault}
use Rattle.order.specs.declared.reader.Reader.{Reader}
use Rattle.order.specs.declared.reader.Size.{Size}
use Rattle.order.specs.Format.{Format, taken, figure_at, run}

-- the figure that is due at the reader's place, and the reader behind it in the same file; or the fault there
abbrev pub Due : Size → (low high : ℕ) → Reader → Result (ℕ × Reader) Fault → Type 0
Due size low high r (Ok p) = (figure_at size low high r.file.now r.at ≡ Ok p.0) × (p.1.file.now ≡ r.file.now) × (p.1.at ≡ r.at + taken size)
Due size low high r (Err e) = figure_at size low high r.file.now r.at ≡ Err e

-- where a part of a format is due: its value, and a reader behind it in the same file, whatever the format goes on with; or the fault there
abbrev pub Passes : {A : Type 0} → ((A → Format) → Format) → Reader → Result (A × Reader) Fault → Type 0
Passes {A} part r (Ok p) = (p.1.file.now ≡ r.file.now) × ((next : A → Format) → run (part next) r.file.now r.at ≡ run (next p.0) r.file.now p.1.at)
Passes {A} part r (Err e) = (next : A → Format) → run (part next) r.file.now r.at ≡ Err e

-- the same of a part that has no value
abbrev pub Skips : (Format → Format) → Reader → Result Reader Fault → Type 0
Skips part r (Ok s) = (s.file.now ≡ r.file.now) × ((next : Format) → run (part next) r.file.now r.at ≡ run next r.file.now s.at)
Skips part r (Err e) = (next : Format) → run (part next) r.file.now r.at ≡ Err e
