-- a of 5 marks and 1 line ranks before a' of no marks and 2 lines; beside 3 lines both are 3 lines deep, and a's marks count.
use Rattle.std.proofs.Common.{◌≡◌, ℕ, refl, arith}
use Rattle.measure.proofs.why.depth_first_breaks.Goals as goal

pub returns : goal.returns
returns c = record {
  a = record { marks = 5; depth = 1 };
  a' = record { marks = 0; depth = 2 };
  b = record { marks = 0; depth = 3 };
  b' = record { marks = 0; depth = 3 };
  ranged = ((omega arith, omega arith), (omega arith, omega arith), (omega arith, omega arith), (omega arith, omega arith));
  left = refl;
  right = refl;
  broken = λ e. let z : ◌≡◌ {A = ℕ} 0 1 = cc in omega arith;
}
