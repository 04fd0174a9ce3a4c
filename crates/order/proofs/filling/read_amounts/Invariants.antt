use Rattle.std.proofs.Common.{◌≡◌, ◌-◌, ◌*◌, ◌++◌, length, take, drop}
use Rattle.order.specs.Fills.{amounts_at}
use Rattle.order.proofs.filling.read_amounts.Given as goal

-- the amounts made so far, and those still to come, are all; the pairs that are left are those still to come
abbrev pub invariant-loop-amount : goal.invariant-loop-amount
invariant-loop-amount g l =
    (l.rest ≡ drop (4 * l.amount-index) l.pairs)
    × (take l.amount-index l.amounts ++ amounts_at (g.M.Filed.filing l.m) l.pairs (4 * l.amount-index) (length l.initial.amounts - l.amount-index)
    ≡ amounts_at (g.M.Filed.filing l.m) l.pairs 0 (length l.initial.amounts))
