-- Examples of lines, computed by the checker.
use Rattle.std.specs.Prelude.{◌≡◌, ℕ, [], ◌∷◌, codes, refl}
use Rattle.std.specs.Fmt.{digits}
use Rattle.fault.specs.declared.refusal.Refusal.TheVariants.{Width, WrongSign, FileEndsEarly}
use Rattle.fault.specs.Faults.{fault_at, of_piece}
use Rattle.fault.specs.Lines.{refusal_text}
use Rattle.fault.specs.Written.{overwrite}

third_piece : refusal_text (of_piece 2 (fault_at Width 1)) ≡ codes "refused 4 page 1 piece 2"
unfolding digits
third_piece = refl

wrong_sign : refusal_text (fault_at WrongSign 5) ≡ codes "refused 13 text 5"
unfolding digits
wrong_sign = refl

empty_file : refusal_text (fault_at FileEndsEarly 0) ≡ codes "refused 18 order 0"
unfolding digits
empty_file = refl

over_the_middle : overwrite {A = ℕ} 1 (7 ∷ (8 ∷ [])) (1 ∷ (2 ∷ (3 ∷ (4 ∷ [])))) ≡ 1 ∷ (7 ∷ (8 ∷ (4 ∷ [])))
over_the_middle = refl
