use Rattle.layout.proofs.Bit.{set_with}
use Rattle.std.proofs.Common.{arith}
use Rattle.layout.proofs.sets.with_piece.Goals as goal

pub returns-then-piece-lt-PIECES : goal.returns-then-piece-lt-PIECES
returns-then-piece-lt-PIECES c = set_with c.args.piece c.args.set (omega arith)
