-- A page beside the two settings tables that its caller lends.
use Rattle.std.specs.Prelude.{◌≡◌, ℕ, List, Result}
use Rattle.fault.specs.declared.refusal.Fault.{Fault}
use Rattle.measure.specs.Measures.{Functions}
use Rattle.page.specs.declared.record.Page.{Page}
use Rattle.page.specs.declared.tables.Tables.{Tables}
use Rattle.page.specs.Pieces.{Held, held}
use Rattle.page.specs.Puts.{Laid}

-- the same two tables, whatever they hold
pub record SameTables {A : Type 0} (before after : Tables A) : Type 0 where
  pub widths : after.widths.ghost_name ≡ before.widths.ghost_name
  pub amounts : after.amounts.ghost_name ≡ before.amounts.ghost_name

-- a page with what its tables hold
abbrev pub held_in : {A : Type 0} → Page → Tables A → Held A
held_in p t = held p t.widths.now t.amounts.now

-- the widths ws and the amounts xs were laid into the tables as piece k, and r was answered
abbrev pub LaidIn : {A : Type 0} → Functions A → ℕ → List ℕ → List A → Tables A → Tables A → Result ℕ Fault → Type 0
LaidIn m k ws xs before after r = Laid m k ws xs before.widths.now before.amounts.now after.widths.now after.amounts.now r
