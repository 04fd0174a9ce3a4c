-- Examples of pieces put on a page, amended and lifted, computed by the checker.
use Rattle.std.specs.Prelude.{◌≡◌, ℕ, ◌-◌, [], ◌∷◌, ◌++◌, replicate, Ok, Err, refl}
use Rattle.fault.specs.declared.refusal.Refusal.TheVariants.{SettingCount, Width, Amount, Memory, NoSuchPiece}
use Rattle.fault.specs.Faults.{fault, fault_at}
use Rattle.measure.specs.Products.{depth}
use Rattle.page.specs.Pieces.{PageData, Held, empty, pieces}
use Rattle.page.specs.Puts.{tested, putting, with_piece}
use Rattle.page.specs.Amends.{amending, with_amended}
use Rattle.page.specs.Lifts.{lifting, without_last}

-- an empty page of four columns, with tables of so many places
abbrev with_tables : ℕ → Held ℕ
with_tables n = record { page = empty 4; widths = replicate n 0; amounts = replicate n 0 }

-- width 1 at 2 lines, and width 2 at 1
abbrev one_put : Held ℕ
one_put = with_piece (with_tables 96) (1 ∷ (2 ∷ [])) (2 ∷ (1 ∷ []))

first_number : putting depth (with_tables 96) (1 ∷ (2 ∷ [])) (2 ∷ (1 ∷ [])) ≡ Ok 0
first_number = refl

second_number : putting depth one_put (3 ∷ []) (9 ∷ []) ≡ Ok 1
second_number = refl

holds_it : pieces one_put ≡ (record { width = 1; amount = 2 } ∷ (record { width = 2; amount = 1 } ∷ [])) ∷ []
holds_it = refl

short_tables : putting depth (with_tables 95) [] [] ≡ Err (fault Memory)
short_tables = refl

none_given : tested depth [] [] ≡ Err (fault SettingCount)
none_given = refl

-- the widths fail at setting 2, the amounts at setting 1: widths come first
widths_first : tested depth (1 ∷ (2 ∷ (2 ∷ []))) (5 ∷ (5 ∷ (4 ∷ []))) ≡ Err (fault_at Width 2)
widths_first = refl

-- an amount as good as the last is not better
not_better : tested depth (1 ∷ (2 ∷ [])) (5 ∷ (5 ∷ [])) ≡ Err (fault_at Amount 1)
not_better = refl

-- a page of n pieces, each of one setting, on which s rows stand
abbrev standing : ℕ → ℕ → PageData
standing n s = record { breadth = 4; count = n; settings = replicate n 1 ++ replicate (12 - n) 0; standing = s }

-- all rows of twelve pieces stand, beside tables of so many places: each piece has width 1 at 9 lines
abbrev twelve : ℕ → Held ℕ
twelve places = record { page = standing 12 4095; widths = replicate places 1; amounts = replicate places 9 }

amend_first : amending depth (twelve 96) 0 (2 ∷ []) (3 ∷ []) ≡ Ok 4095
amend_first = refl

-- the one row of piece 0 alone stays
amend_second : amending depth (twelve 96) 1 (2 ∷ []) (3 ∷ []) ≡ Ok 4094
amend_second = refl

amend_last : amending depth (twelve 96) 11 (2 ∷ []) (3 ∷ []) ≡ Ok 2048
amend_last = refl

amend_keeps : (with_amended (twelve 96) 11 (2 ∷ []) (3 ∷ [])).page.standing ≡ 2047
amend_keeps = refl

-- there is no piece 12, and that is found before short tables and wrong settings
no_twelfth : amending depth (twelve 95) 12 [] [] ≡ Err (fault NoSuchPiece)
no_twelfth = refl

short_before_settings : amending depth (twelve 95) 11 [] [] ≡ Err (fault Memory)
short_before_settings = refl

-- one piece put, then given another setting
amended_piece : pieces (with_amended one_put 0 (3 ∷ []) (7 ∷ [])) ≡ (record { width = 3; amount = 7 } ∷ []) ∷ []
amended_piece = refl

-- of two pieces the other stays
other_piece : pieces (with_amended (with_piece one_put (3 ∷ []) (9 ∷ [])) 1 (4 ∷ []) (7 ∷ [])) ≡ (record { width = 1; amount = 2 } ∷ (record { width = 2; amount = 1 } ∷ [])) ∷ ((record { width = 4; amount = 7 } ∷ []) ∷ [])
other_piece = refl

lift_twelfth : lifting (standing 12 4095) ≡ Ok 2048
lift_twelfth = refl

lift_only : lifting (standing 1 1) ≡ Ok 1
lift_only = refl

lift_none : lifting (standing 0 0) ≡ Err (fault NoSuchPiece)
lift_none = refl

-- fewer rows than are kept: none falls
none_falls : lifting (standing 12 2047) ≡ Ok 0
none_falls = refl

lifted_record : without_last (standing 12 4095) ≡ standing 11 2047
lifted_record = refl
