use Rattle.std.proofs.Common.{[], ap, arith}
use Rattle.fault.specs.Written.{labelled}
use Rattle.fault.proofs.Filled.{labelled_first, filled_wrote, room_there}
use Rattle.measure.proofs.filing.DepthFiled.write.Goals as goal

pub returns : goal.returns
returns c =
    let w = c.args.out.now in
    let fits = room_there _ _ 16 _ c.wants.ensures c.in_ok-wants.was in
    let number = labelled_first 16 w fits 5 5 [] _ _ _ (omega arith) (omega (arith, c.from.ensures)) (omega arith) (omega arith) (omega arith) c.labelled.ensures in
    filled_wrote 16 w fits 5 _ _ _ _ (omega arith) number.0 (ap (labelled []) c.from.ensures) number.1
