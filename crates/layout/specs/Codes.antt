-- Codes as numbers: packed by adding their parts, and taken apart by quotients and remainders.
use Rattle.std.specs.Prelude.{◌≡◌, ℕ, zero, suc, ◌+◌, ◌*◌, ◌/◌, ◌%◌, Bool, true, cond, ◌&&◌, Some, None, Option, Ok, Err, Result, ok_or, nat_lt}
use Rattle.fault.specs.declared.refusal.Refusal.TheVariants.{SpoiledCode}
use Rattle.fault.specs.declared.refusal.Fault.{Fault}
use Rattle.fault.specs.Faults.{fault}
use Rattle.layout.specs.declared.code.Code.{Code}
use Rattle.layout.specs.declared.code.Code.TheVariants.{Nothing, Cell, Above, Beside}
use Rattle.layout.specs.declared.code.CodeKind.{CodeKind}
use Rattle.layout.specs.declared.code.CodeKind.TheVariants as kinds

-- the number of a kind in bits 0 and 1
abbrev pub kind_bits : CodeKind → ℕ
kind_bits kinds.Nothing = 0
kind_bits kinds.Cell = 1
kind_bits kinds.Above = 2
kind_bits kinds.Beside = 3

-- a code's kind
abbrev pub code_kind : Code → ℕ
code_kind Nothing = 0
code_kind (Cell setting) = 1
code_kind (Above left) = 2
code_kind (Beside left width) = 3

-- a code's number: its kind, 4 times its setting or left set, and 2 ^ 14 times its left width
abbrev pub code_number : Code → ℕ
code_number Nothing = 0
code_number (Cell setting) = 1 + 4 * setting
code_number (Above left) = 2 + 4 * left
code_number (Beside left width) = 3 + 4 * left + 16384 * width

-- settings have 3 bits, left sets 12, and left widths 5
abbrev pub in_range : Code → Bool
in_range Nothing = true
in_range (Cell setting) = nat_lt setting 8
in_range (Above left) = nat_lt left 4096
in_range (Beside left width) = nat_lt left 4096 && nat_lt width 32

-- what the numbers of a kind stay below: a larger one has a bit set that its kind does not use
abbrev pub kind_limit : ℕ → ℕ
kind_limit zero = 1
kind_limit (suc zero) = 32
kind_limit (suc (suc zero)) = 16384
kind_limit (suc (suc (suc kind))) = 524288

-- what a number of a kind says
abbrev pub said : ℕ → ℕ → Code
said zero n = Nothing
said (suc zero) n = Cell (n / 4 % 8)
said (suc (suc zero)) n = Above (n / 4 % 4096)
said (suc (suc (suc kind))) n = Beside (n / 4 % 4096) (n / 16384 % 32)

-- the code of a number, if it is one
abbrev pub taken_apart : ℕ → Option Code
taken_apart n = cond (nat_lt n (kind_limit (n % 4))) (Some (said (n % 4) n)) None

-- the number of a code in range; another is refused
abbrev pub packed : Code → Result ℕ Fault
packed c = cond (in_range c) (Ok (code_number c)) (Err (fault SpoiledCode))

-- the code of a number; one that is no code is refused
abbrev pub unpacked : ℕ → Result Code Fault
unpacked n = ok_or (taken_apart n) (fault SpoiledCode)

-- a code in range is taken apart as it was packed, and a number that is a code was packed from one in range
pub record CodesRoundTrip : Type 0 where
  pub unpacks : (c : Code) → in_range c ≡ true → taken_apart (code_number c) ≡ Some c
  pub packs : (n : ℕ) (c : Code) → taken_apart n ≡ Some c → (in_range c ≡ true) × (code_number c ≡ n)
