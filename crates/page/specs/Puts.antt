-- How a page is opened, how settings are tested, and how a piece is put.
use Rattle.std.specs.Prelude.{◌≡◌, ℕ, ◌+◌, ◌*◌, cond, ◌&&◌, List, [], ◌∷◌, ◌++◌, length, Ok, Err, Result, ◌==◌, nat_le, nat_lt, slice_set}
use Rattle.fault.specs.declared.refusal.Refusal.TheVariants.{Breadth, SettingCount, Memory, Width, Amount, PageFull}
use Rattle.fault.specs.declared.refusal.Fault.{Fault}
use Rattle.fault.specs.Faults.{fault, fault_at, then}
use Rattle.fault.specs.Written.{overwrite}
use Rattle.measure.specs.Measures.{Functions, better}
use Rattle.measure.specs.Settings.{Setting, paired}
use Rattle.page.specs.Pieces.{PageData, Held, empty, pieces}

-- a breadth of 1 to 24
abbrev pub opening : ℕ → Result (Unit {0}) Fault
opening breadth = cond (nat_le 1 breadth && nat_le breadth 24) (Ok tt) (Err (fault Breadth))

abbrev pub opened : Result (Unit {0}) Fault → ℕ → PageData → PageData
opened (Ok u) breadth p = empty breadth
opened (Err e) breadth p = p

-- widths rise above the last and are at most 24; else the first setting that does not
abbrev pub rising : ℕ → ℕ → List ℕ → Result (Unit {0}) Fault
rising last i [] = Ok tt
rising last i (w ∷ ws) = cond (nat_lt last w && nat_le w 24) (rising w (i + 1) ws) (Err (fault_at Width i))

-- each amount is better than the last; else the first setting whose amount is not
abbrev pub improving : {A : Type 0} → Functions A → A → ℕ → List A → Result (Unit {0}) Fault
improving m last i [] = Ok tt
improving m last i (a ∷ xs) = cond (better m a last) (improving m a (i + 1) xs) (Err (fault_at Amount i))

abbrev pub all_improving : {A : Type 0} → Functions A → List A → Result (Unit {0}) Fault
all_improving m [] = Ok tt
all_improving m (a ∷ xs) = improving m a 1 xs

-- 1 to 8 settings, as many widths as amounts
abbrev pub counted : ℕ → ℕ → Result (Unit {0}) Fault
counted widths amounts = cond (nat_le 1 widths && (nat_le widths 8 && widths == amounts)) (Ok tt) (Err (fault SettingCount))

-- the settings of a piece: their number, then all widths, then all amounts
abbrev pub tested : {A : Type 0} → Functions A → List ℕ → List A → Result (Unit {0}) Fault
tested m ws xs = then (counted (length ws) (length xs)) (λ _. then (rising 0 0 ws) (λ _. all_improving m xs))

-- settings tables of at least 96 places
abbrev pub roomy : ℕ → ℕ → Result (Unit {0}) Fault
roomy widths amounts = cond (nat_le 96 widths && nat_le 96 amounts) (Ok tt) (Err (fault Memory))

-- what laying settings into tables of so many places answers: how many settings they are
abbrev pub laying : {A : Type 0} → Functions A → ℕ → ℕ → List ℕ → List A → Result ℕ Fault
laying m widths amounts ws xs = then (roomy widths amounts) (λ _. then (tested m ws xs) (λ _. Ok (length ws)))

-- a table with the elements of piece k laid into it, or as before
abbrev pub laid : {A : Type 0} → Result ℕ Fault → ℕ → List A → List A → List A
laid (Ok n) k xs table = overwrite (8 * k) xs table
laid (Err e) k xs table = table

-- the widths ws and the amounts xs were laid into both tables as piece k, and r was answered
pub record Laid {A : Type 0} (m : Functions A) (k : ℕ) (ws : List ℕ) (xs : List A) (widths : List ℕ) (amounts : List A) (widths' : List ℕ) (amounts' : List A) (r : Result ℕ Fault) : Type 0 where
  pub answer : r ≡ laying m (length widths) (length amounts) ws xs
  pub wide : widths' ≡ laid r k ws widths
  pub deep : amounts' ≡ laid r k xs amounts

-- what put answers: the number of the new piece, or why there is none
abbrev pub putting : {A : Type 0} → Functions A → Held A → List ℕ → List A → Result ℕ Fault
putting m h ws xs =
    cond (nat_lt h.page.count 12)
    (then (roomy (length h.widths) (length h.amounts)) (λ _. then (tested m ws xs) (λ _. Ok h.page.count)))
    (Err (fault PageFull))

-- the page with one piece more, its settings in the tables from place 8n on
abbrev pub with_piece : {A : Type 0} → Held A → List ℕ → List A → Held A
with_piece h ws xs = record {
  page = record {
    breadth = h.page.breadth;
    count = h.page.count + 1;
    settings = slice_set h.page.settings h.page.count (length ws);
    standing = h.page.standing;
  };
  widths = overwrite (8 * h.page.count) ws h.widths;
  amounts = overwrite (8 * h.page.count) xs h.amounts;
}

-- what put leaves: one piece more, or all as before
abbrev pub put_leaves : {A : Type 0} → Result ℕ Fault → Held A → List ℕ → List A → Held A
put_leaves (Ok k) h ws xs = with_piece h ws xs
put_leaves (Err e) h ws xs = h

-- the old pieces and the new one behind them, or just the old ones
abbrev pub put_pieces : {A : Type 0} → Result ℕ Fault → Held A → List ℕ → List A → List (List (Setting A))
put_pieces (Ok k) h ws xs = pieces h ++ (paired ws xs ∷ [])
put_pieces (Err e) h ws xs = pieces h

-- a put of the widths ws and the amounts xs led from h to k, and answered r
pub record Put {A : Type 0} (m : Functions A) (h : Held A) (ws : List ℕ) (xs : List A) (k : Held A) (r : Result ℕ Fault) : Type 0 where
  pub answer : r ≡ putting m h ws xs
  pub leaves : k ≡ put_leaves r h ws xs
  pub holds : pieces k ≡ put_pieces r h ws xs
