use Rattle.std.proofs.Common.{arith}
use Rattle.std.proofs.lemmas.Nat.Bits.{bit_at_above}
use Rattle.std.proofs.lemmas.Bool.Decides.{nat_tests}
use Rattle.layout.proofs.sets.holds.Goals as goal

pub returns-else-piece-lt-PIECES : goal.returns-else-piece-lt-PIECES
returns-else-piece-lt-PIECES c =
    let none = bit_at_above c.args.set 16 c.args.piece (omega arith) (omega arith) in
    grind (arith, nat_tests, none)
