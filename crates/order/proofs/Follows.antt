-- The paths through a format, and what each outcome of a check says of a format from a place on.
use Rattle.std.proofs.Common.{◌≡◌, ℕ, ◌+◌, ◌*◌, ◌/◌, ◌%◌, ◌<◌, ◌≤◌, ◌⊎◌, List, [], ◌∷◌, ◌++◌, length, get_or, take, drop, Ok, Err, Result, sym, refl, ap, ◌∙◌, subst, arith, w8, Fits}
use Rattle.std.specs.List.{flat_map}
use Rattle.std.proofs.lemmas.List.{append_assoc, append_cancel_left, take-append-drop, take-take, take_more}
use Rattle.fault.specs.declared.refusal.Refusal.TheVariants.{FileEndsEarly, FigureOutOfRange, FileGoesOn}
use Rattle.fault.specs.declared.refusal.Fault.{Fault}
use Rattle.fault.specs.Faults.{fault_at}
use Rattle.order.specs.declared.head.Figures.{Figures}
use Rattle.order.specs.Order.{Figure, sized, spelt}
use Rattle.order.specs.declared.reader.Size.{Size}
use Rattle.order.specs.declared.reader.Size.TheVariants.{Byte, Pair}
use Rattle.order.specs.Format.{Format, done, figure, taken, number_at}

abbrev pub due : Size → (low high value : ℕ) → Figure
due size low high value = record { size = size; low = low; high = high; value = value }

-- the figures are a path through the format, each in range, and it ends at this head
abbrev pub Follows : Format → List Figure → Figures → Type 0
Follows (done h) [] k = h ≡ k
Follows (done h) (f ∷ fs) k = ⊥
Follows (figure size low high next) [] k = ⊥
Follows (figure size low high next) (f ∷ fs) k =
    (f ≡ due size low high f.value) × (low ≤ f.value) × (f.value ≤ high) × Follows (next f.value) fs k

-- a path that spells, behind the bytes before, these bytes
pub record Spells (t : Format) (before w : List ℕ) (h : Figures) : Type 0 where
  pub path : List Figure
  pub follows : Follows t path h
  pub reads : before ++ flat_map spelt path ≡ w

-- the outcomes of a check of the whole file, where the bytes before are read and the format stands behind them
abbrev pub Early : Format → (before file : List ℕ) → Type 0
Early t before file = (rest : List ℕ) × (h : Figures) × (0 < length rest) × Spells t before (file ++ rest) h

abbrev pub Over : Format → (before file : List ℕ) → ℕ → Type 0
Over t before file place = (h : Figures) × (place < length file) × Spells t before (take place file) h

pub record Misfit (t : Format) (before file : List ℕ) (place : ℕ) : Type 0 where
  pub head : Figures
  pub passed : List Figure
  pub here : Figure
  pub after : List Figure
  pub follows : Follows t (passed ++ here ∷ after) head
  pub read : before ++ flat_map spelt passed ≡ take place file
  pub from : length (before ++ flat_map spelt passed) ≡ place
  pub there : place + length (spelt here) ≤ length file
  pub wrong : (rest : List ℕ) (h : Figures) → Spells t before (take (place + length (spelt here)) file ++ rest) h → ⊥

abbrev pub Tells : Format → (before file : List ℕ) → Result Figures Fault → Type 0
Tells t before file (Ok h) = Spells t before file h
Tells t before file (Err e) =
    ((e ≡ fault_at FileEndsEarly (length file)) × Early t before file)
    ⊎ (((place : ℕ) × (e ≡ fault_at FigureOutOfRange place) × Misfit t before file place)
    ⊎ ((place : ℕ) × (e ≡ fault_at FileGoesOn place) × Over t before file place))

-- ---- the bytes of a figure
pub sized_long : (size : Size) (n : ℕ) → length (sized size n) ≡ taken size
sized_long Byte n = refl
sized_long Pair n = refl

pub sized_same : (size : Size) (m n : ℕ) (x y : List ℕ) → sized size m ++ x ≡ sized size n ++ y → m ≡ n
sized_same Byte m n x y e = cc
sized_same Pair m n x y e =
    let a : m % 256 ≡ n % 256 = cc in
    let b : m / 256 ≡ n / 256 = cc in
    omega arith

-- the bytes from a place on are those of the number there
pub read_on : (size : Size) (file : List ℕ) (at : ℕ) → ((i : ℕ) → Fits w8 (get_or file i 0)) → at + taken size ≤ length file → take (at + taken size) file ≡ take at file ++ sized size (number_at size file at)
read_on Byte file at small h = take_more file at 0 (omega arith)
read_on Pair file at small h =
    let e : at + 2 ≡ (at + 1) + 1 = omega arith in
    let b : ℕ = get_or file at 0 in
    let c : ℕ = get_or file (at + 1) 0 in
    let low : b ≡ (b + 256 * c) % 256 = omega (arith, (small at).fits) in
    let high : c ≡ (b + 256 * c) / 256 = omega (arith, (small at).fits) in
    ap (λ n. take n file) e ∙ (take_more file (at + 1) 0 (omega arith) ∙ (ap (λ l. l ++ c ∷ []) (take_more file at 0 (omega arith)) ∙ (append_assoc (take at file) (b ∷ []) (c ∷ []) ∙ (ap (λ n. take at file ++ n ∷ (c ∷ [])) low ∙ ap (λ n. take at file ++ ((b + 256 * c) % 256) ∷ (n ∷ [])) high))))

pub take_further : (m n : ℕ) (l : List ℕ) → take m l ++ drop m (take (m + n) l) ≡ take (m + n) l
take_further m n l = ap (λ x. x ++ drop m (take (m + n) l)) (sym (take-take m (m + n) l (omega arith))) ∙ take-append-drop m (take (m + n) l)

-- ---- one figure of a path
module _ (size : Size) (low high : ℕ) (next : ℕ → Format) (before : List ℕ) where
  -- a figure that spells the bytes of v has the value v
  pub same_value : (v : ℕ) (f : Figure) (js x y : List ℕ) → f ≡ due size low high f.value → (before ++ (spelt f ++ js)) ++ x ≡ (before ++ sized size v) ++ y → f.value ≡ v
  same_value v f js x y e h =
      let p : before ++ (spelt f ++ (js ++ x)) ≡ before ++ (sized size v ++ y) =
      sym (simp append_assoc) ∙ (h ∙ append_assoc before (sized size v) y) in
      let q : sized size f.value ++ (js ++ x) ≡ sized size v ++ y =
      ap (λ b. b ++ (js ++ x)) (sym (ap spelt e)) ∙ append_cancel_left before _ _ p in
      sized_same size f.value v (js ++ x) y q

  pub moved : (v : ℕ) (f : Figure) (js : List ℕ) → f ≡ due size low high f.value → f.value ≡ v → (before ++ sized size v) ++ js ≡ before ++ (spelt f ++ js)
  moved v f js e h =
      append_assoc before (sized size v) js ∙ ap (λ b. before ++ (b ++ js)) (ap (sized size) (sym h) ∙ sym (ap spelt e))

  -- from the figure's value to the format, and back
  pub wider : {w : List ℕ} {h : Figures} (v : ℕ) → low ≤ v → v ≤ high → Spells (next v) (before ++ sized size v) w h → Spells (figure size low high next) before w h
  wider v lo hi s = record {
    path = due size low high v ∷ s.path;
    follows = (refl, lo, hi, s.follows);
    reads = sym (append_assoc before (sized size v) (flat_map spelt s.path)) ∙ s.reads;
  }

  pub narrower : (v : ℕ) (w x y : List ℕ) (h : Figures) → w ++ x ≡ (before ++ sized size v) ++ y → Spells (figure size low high next) before w h → (low ≤ v) × (v ≤ high) × Spells (next v) (before ++ sized size v) w h
  narrower v w x y h e s = go s.path s.follows s.reads
    where
      go : (path : List Figure) → Follows (figure size low high next) path h → before ++ flat_map spelt path ≡ w → (low ≤ v) × (v ≤ high) × Spells (next v) (before ++ sized size v) w h
      go [] f r = absurd f
      go (f ∷ fs) g r =
          let k : f.value ≡ v = same_value v f (flat_map spelt fs) x y g.0 (ap (λ l. l ++ x) r ∙ e) in (
            subst (λ n. low ≤ n) k g.1,
            subst (λ n. n ≤ high) k g.2,
            record {
              path = fs;
              follows = subst (λ n. Follows (next n) fs h) k g.3;
              reads = moved v f (flat_map spelt fs) g.0 k ∙ r;
            },
          )
