use Rattle.page.specs.Tables.{SameTables, held_in}
use Rattle.order.specs.Order.{Order, Reads}
use Rattle.order.proofs.Filed.{Stage}
use Rattle.order.proofs.filling.put_pieces.Given as goal

-- so many pieces are put, and what is left stands in the parts of the file
abbrev pub invariant-loop-piece : goal.invariant-loop-piece
invariant-loop-piece g l =
    SameTables l.initial.tables l.tables
    × ((o : Order) → Reads l.file o → Stage (g.M.Measure.functions l.m) (g.M.Filed.filing l.m) o (held_in l.initial.page l.initial.tables) (held_in l.page l.tables) l.piece l.counts l.widths l.pairs)
