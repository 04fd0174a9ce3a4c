-- a has a mark fewer than a' and is deeper; beside 9,999 marks both stop at 9,999, and a's depth counts.
use Rattle.std.proofs.Common.{◌≡◌, ℕ, refl, arith}
use Rattle.measure.proofs.why.stopping_breaks.Goals as goal

pub returns : goal.returns
returns c = record {
  a = record { marks = 9998; depth = 5 };
  a' = record { marks = 9999; depth = 1 };
  b = record { marks = 9999; depth = 1 };
  b' = record { marks = 9999; depth = 1 };
  ranged = ((omega arith, omega arith), (omega arith, omega arith), (omega arith, omega arith), (omega arith, omega arith));
  left = refl;
  right = refl;
  broken = λ e. let z : ◌≡◌ {A = ℕ} 0 1 = cc in omega arith;
}
