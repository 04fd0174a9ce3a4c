use Rattle.std.proofs.lemmas.Nat.Bits.{same_from_bits}
use Rattle.layout.proofs.Bit.{bit_of_number}
use Rattle.layout.proofs.sets.sets_are_numbers.Goals as goal

pub returns : goal.returns
returns c = record { pieces = bit_of_number; same = same_from_bits }
