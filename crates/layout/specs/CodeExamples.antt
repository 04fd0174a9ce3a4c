-- Examples of codes, computed by the checker.
use Rattle.std.specs.Prelude.{◌≡◌, ◌+◌, ◌*◌, ◌^◌, false, Some, None, refl}
use Rattle.layout.specs.declared.code.Code.TheVariants.{Nothing, Cell, Above, Beside}
use Rattle.layout.specs.Codes.{code_number, in_range, taken_apart}

-- piece 0 on the left, 1 column wide
one_column : code_number (Beside 1 1) ≡ 16391
one_column = refl

first_taken : taken_apart 16391 ≡ Some (Beside 1 1)
first_taken = refl

-- the last setting of 8, and one more
last_setting : code_number (Cell 7) ≡ 29
last_setting = refl

ninth_setting : in_range (Cell 8) ≡ false
ninth_setting = refl

-- all pieces of twelve but the first
all_but_one : taken_apart (2 + 4 * 4094) ≡ Some (Above 4094)
all_but_one = refl

-- the widest left part of a page of breadth 24
widest_left : taken_apart (code_number (Beside 4094 23)) ≡ Some (Beside 4094 23)
widest_left = refl

-- nothing is 0 alone
nothing : taken_apart 0 ≡ Some Nothing
nothing = refl

nothing_more : taken_apart 4 ≡ None
nothing_more = refl

-- a cell with bit 5 set, an above cut with a width, a beside cut with bit 19 set
long_cell : taken_apart 33 ≡ None
long_cell = refl

wide_above : taken_apart (2 + 16384) ≡ None
wide_above = refl

long_beside : taken_apart (3 + 2 ^ 19) ≡ None
long_beside = refl
