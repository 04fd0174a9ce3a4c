use Rattle.std.proofs.Common.{[], ◌++◌, codes, arith}
use Rattle.fault.specs.Written.{labelled}
use Rattle.fault.proofs.Filled.{labelled_first, labelled_more, filled_wrote, stopped, room_there}
use Rattle.measure.proofs.filing.MarkedFiled.write.Goals as goal

pub returns-in_err-labelled : goal.returns-in_err-labelled
returns-in_err-labelled c =
    let fits = room_there _ _ 16 _ c.wants.ensures c.in_ok-wants.was in
    absurd (stopped (labelled_first 16 _ fits 5 5 [] _ _ _ (omega arith) (omega (arith, c.from.ensures)) (omega arith) (omega arith) (omega arith) c.labelled.ensures) c.in_err-labelled.was)

pub returns : goal.returns
returns c =
    let w = c.args.out.now in
    let fits = room_there _ _ 16 _ c.wants.ensures c.in_ok-wants.was in
    let marks = labelled_first 16 w fits 5 5 [] _ _ _ (omega arith) (omega (arith, c.from.ensures)) (omega arith) (omega arith) (omega arith) c.labelled.ensures in
    let both = labelled_more 16 w fits 5 5 11 _ (codes "+") _ _ _ _ (omega arith) (omega (arith, c.from-2.ensures)) (omega arith) (omega arith) (omega arith) marks.1 c.labelled-2.ensures in
    filled_wrote 16 w fits 11 _ _ _ _ (omega arith) both.0 (λ i. labelled [] (c.from.ensures i) ++ labelled (codes "+") (c.from-2.ensures i)) both.1
