-- Text written at the place of a writer.
use Rattle.std.specs.Prelude.{◌≡◌, ℕ, ◌+◌, ◌≤◌, Bool, cond, List, length, Ok, Err, Result, nat_le}
use Rattle.fault.specs.declared.refusal.Refusal.TheVariants.{Memory}
use Rattle.fault.specs.declared.refusal.Fault.{Fault}
use Rattle.fault.specs.declared.writer.Writer.{Writer}
use Rattle.fault.specs.Faults.{fault}
use Rattle.fault.specs.Written.{overwrite}

-- a writer at its place has `room` places
abbrev pub ample : ℕ → Writer → Bool
ample room w = nat_le (w.at + room) (length w.out.now)

-- where `room` places lie in the memory from the writer's place on, xs takes at most so many, is laid there, and its place is then the one
-- behind xs; else the answer is that memory is short, and nothing changes. The memory is the same in either case
pub record WrittenBy (room : ℕ) (xs : List ℕ) (before after : Writer) (r : Result (Unit {0}) Fault) : Type 0 where
  pub same : after.out.ghost_name ≡ before.out.ghost_name
  pub within : before.at + room ≤ length before.out.now → length xs ≤ room
  pub answer : r ≡ cond (ample room before) (Ok tt) (Err (fault Memory))
  pub memory : after.out.now ≡ cond (ample room before) (overwrite before.at xs before.out.now) before.out.now
  pub behind : after.at ≡ cond (ample room before) (before.at + length xs) before.at
