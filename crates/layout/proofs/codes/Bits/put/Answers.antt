use Rattle.std.proofs.Common.{ap, ◌∙◌, bit_or, arith}
use Rattle.std.proofs.lemmas.Nat.{shl_whole, or_shifted}
use Rattle.layout.proofs.codes.Bits.put.Goals as goal

pub returns : goal.returns
returns c =
    let bits = c.args.self in
    ap (λ n. bit_or n c.args.word) (shl_whole c.args.part bits.count bits.at 32 c.requires.part (omega arith)) ∙ or_shifted c.args.part bits.at c.args.word c.requires.word
