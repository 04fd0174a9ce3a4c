use Rattle.std.proofs.Common.{length, ap, sym, arith}
use Rattle.std.proofs.lemmas.Fmt.{decimal_digit}
use Rattle.fault.proofs.Digits.{digits_between}
use Rattle.fault.proofs.numbers.digits.Goals as goal

pub returns-in-Some : goal.returns-in-Some
returns-in-Some c = digits_between c.in-Some.power c.args.n c.in-Some.ensures.power_le c.in-Some.ensures.next_power_gt (omega arith)

pub returns-in-None : goal.returns-in-None
returns-in-None c = sym (ap length (decimal_digit c.args.n (omega (arith, c.in-None.ensures.none))))
