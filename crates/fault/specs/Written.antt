-- Elements written over a part of lent memory.
use Rattle.std.specs.Prelude.{◌≡◌, ℕ, ◌+◌, ◌≤◌, cond, List, ◌++◌, length, take, drop, Ok, Err, decimal, Result, nat_le}
use Rattle.fault.specs.declared.refusal.Refusal.TheVariants.{Memory}
use Rattle.fault.specs.declared.refusal.Fault.{Fault}
use Rattle.fault.specs.Faults.{fault}

-- xs laid over o from place `at` on; all other elements stay
abbrev pub overwrite : {A : Type 0} → ℕ → List A → List A → List A
overwrite at xs o = take at o ++ (xs ++ drop (at + length xs) o)

-- what is answered where so many places are wanted in memory of a length, from place `at` on
abbrev pub room_wanted : ℕ → ℕ → ℕ → Result (Unit {0}) Fault
room_wanted size at count = cond (nat_le (at + count) size) (Ok tt) (Err (fault Memory))

-- a number in decimal behind a label
abbrev pub labelled : List ℕ → ℕ → List ℕ
labelled label n = label ++ decimal n

-- where `room` places lie in the memory from place `at` on, xs takes at most so many, is laid there, and the place behind it
-- answered; else the answer is that memory is short, and nothing changes
pub record Written {A : Type 0} (room : ℕ) (xs before : List A) (at : ℕ) (after : List A) (r : Result ℕ Fault) : Type 0 where
  pub within : at + room ≤ length before → length xs ≤ room
  pub answer : r ≡ cond (nat_le (at + room) (length before)) (Ok (at + length xs)) (Err (fault Memory))
  pub memory : after ≡ cond (nat_le (at + room) (length before)) (overwrite at xs before) before
