use Rattle.std.proofs.Common.{◌++◌, codes, ◌∙◌, arith}
use Rattle.fault.specs.Written.{labelled}
use Rattle.fault.proofs.Filled.{labelled_first, labelled_more, filled_wrote, stopped, room_there}
use Rattle.order.proofs.headings.write_heading.Goals as goal

pub returns-in_err-labelled : goal.returns-in_err-labelled
returns-in_err-labelled c =
    let fits = room_there _ _ 80 _ c.wants.ensures c.in_ok-wants.was in
    absurd (stopped (labelled_first 80 _ fits 3 10 (codes "pieces ") _ _ _ (omega arith) (omega (arith, c.from.ensures)) (omega arith) (omega arith) (omega arith) c.labelled.ensures) c.in_err-labelled.was)

pub returns : goal.returns
returns c =
    let w = c.args.out.now in
    let fits = room_there _ _ 80 _ c.wants.ensures c.in_ok-wants.was in
    let pieces = labelled_first 80 w fits 3 10 (codes "pieces ") _ _ _ (omega arith) (omega (arith, c.from.ensures)) (omega arith) (omega arith) (omega arith) c.labelled.ensures in
    let both = labelled_more 80 w fits 10 3 22 _ (codes " breadth ") _ _ _ _ (omega arith) (omega (arith, c.from-2.ensures)) (omega arith) (omega arith) (omega arith) pieces.1 c.labelled-2.ensures in
    filled_wrote 80 w fits 22 _ _ _ _ (omega arith) both.0
    (λ i. labelled (codes "pieces ") ((c.from.ensures ∙ c.count.ensures) i) ++ labelled (codes " breadth ") ((c.from-2.ensures ∙ c.breadth.ensures) i)) both.1
