use Rattle.std.proofs.Common.{length}
use Rattle.layout.proofs.reading.+last_layout.Given as goal

abbrev pub decreases-last_layout : goal.decreases-last_layout
decreases-last_layout l = length l.entries.now
