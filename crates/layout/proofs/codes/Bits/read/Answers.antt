use Rattle.std.proofs.Common.{◌/◌, ◌^◌, ap, ◌-◌, ◌∙◌, bit_and, arith}
use Rattle.std.proofs.lemmas.Nat.{and_mask, one_shl}
use Rattle.layout.proofs.codes.Bits.read.Goals as goal

pub returns : goal.returns
returns c =
    let bits = c.args.self in
    ap (λ n. bit_and (c.args.word / 2 ^ bits.at) (n - 1)) (one_shl bits.count 32 (omega arith)) ∙ and_mask (c.args.word / 2 ^ bits.at) bits.count
