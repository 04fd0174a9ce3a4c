use Rattle.std.proofs.Common.{refl, arith}
use Rattle.fault.proofs.Filled.{filled_first, filled_wrote, room_there}
use Rattle.layout.proofs.Lined.{room_for_plan, plan_filled}
use Rattle.layout.proofs.lines.write_layout.Goals as goal

pub write_plan-requires : goal.write_plan-requires
write_plan-requires g c =
    let w = c.args.out.now in
    let fits = room_there _ _ 80 _ c.wants.ensures c.in_ok-wants.was in
    let front = filled_first 80 w fits 21 21 _ _ _ (omega arith) (omega arith) c.write_front.ensures in
    room_for_plan w _ _ fits front.1 _ (c.if-not-is_layout.ensures.0 refl)

pub returns : goal.returns
returns g c =
    let w = c.args.out.now in
    let fits = room_there _ _ 80 _ c.wants.ensures c.in_ok-wants.was in
    let front = filled_first 80 w fits 21 21 _ _ _ (omega arith) (omega arith) c.write_front.ensures in
    let layout = c.if-not-is_layout.ensures.0 refl in
    record {
      line = λ x s. filled_wrote 80 w fits 80 _ _ _ _ (omega arith) refl refl (plan_filled w _ _ fits front.1 _ _ c.write_plan.ensures.same c.write_plan.ensures.wrote x s);
      refused = λ none. absurd (none layout.0 layout.1);
    }
