use Rattle.std.proofs.Common.{[], ◌++◌, codes, decimal, ap, arith}
use Rattle.fault.proofs.Filled.{labelled_first, filled_more, filled_wrote, stopped, room_there}
use Rattle.layout.proofs.lines.write_none.Goals as goal

pub returns-in_err-labelled : goal.returns-in_err-labelled
returns-in_err-labelled c =
    let fits = room_there _ _ 80 _ c.wants.ensures c.in_ok-wants.was in
    absurd (stopped (labelled_first 80 _ fits 3 3 [] _ _ _ (omega arith) (omega (arith, c.from.ensures)) (omega arith) (omega arith) (omega arith) c.labelled.ensures) c.in_err-labelled.was)

pub returns : goal.returns
returns c =
    let w = c.args.out.now in
    let fits = room_there _ _ 80 _ c.wants.ensures c.in_ok-wants.was in
    let width = labelled_first 80 w fits 3 3 [] _ _ _ (omega arith) (omega (arith, c.from.ensures)) (omega arith) (omega arith) (omega arith) c.labelled.ensures in
    let both = filled_more 80 w fits 3 8 5 _ (codes " none") _ _ _ (omega arith) (omega arith) width.1 c.text.ensures in
    filled_wrote 80 w fits 8 _ _ _ _ (omega arith) both.0 (ap (λ n. decimal n ++ codes " none") c.from.ensures) both.1
