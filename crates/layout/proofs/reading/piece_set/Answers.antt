use Rattle.std.proofs.Common.{rules}
use Rattle.std.proofs.lemmas.Iterator.{YieldsList-from_slice}
use Rattle.layout.proofs.Gather.{collected}
use Rattle.layout.proofs.reading.piece_set.Goals as goal

pub returns : goal.returns
returns c =
    collected _ _ (λ f f' a x v call. search rules) _ c.try_fold.new.self _ c.try_fold.result c.args.entries.now c.try_fold.ensures.ran (YieldsList-from_slice c.args.entries.now cc)
