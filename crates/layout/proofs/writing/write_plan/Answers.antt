use Rattle.std.proofs.Common.{length}
use Rattle.layout.proofs.Lined.{plan_room, plan_wrote}
use Rattle.layout.proofs.writing.write_plan.Goals as goal

pub write_back-requires : goal.write_back-requires
write_back-requires c = plan_room c.args.entries.now c.args.out.now.at (length c.args.out.now.out.now) c.requires

pub returns-clause-wrote : goal.returns-clause-wrote
returns-clause-wrote c = plan_wrote c.args.entries.now c.args.out.now.out.now c.args.out.now.at _ _ _ c.write_back.ensures
