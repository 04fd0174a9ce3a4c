-- The outcome of a run over a format holds, and no other does.
use Rattle.std.proofs.Common.{◌≡◌, ℕ, ◌+◌, ◌/◌, ◌%◌, ◌<◌, ◌≤◌, ◌⊎◌, List, [], ◌∷◌, ◌++◌, length, get_or, take, drop, Ok, Err, Result, sym, refl, ap, ◌∙◌, subst, inl, inr, ⊎_elim, arith, w8, Fits}
use Rattle.std.specs.List.{flat_map}
use Rattle.std.proofs.lemmas.List.{append-nil, append_assoc, append_cancel_left, length-append, length-take-le, take-append-drop, take_all, take_more, take_at}
use Rattle.std.proofs.lemmas.Bool.{cases_lt, le-leb, lt-leb, cond-true, cond-false}
use Rattle.fault.specs.declared.refusal.Refusal.TheVariants.{FileEndsEarly, FigureOutOfRange, FileGoesOn}
use Rattle.fault.specs.declared.refusal.Fault.{Fault}
use Rattle.fault.specs.Faults.{fault_at}
use Rattle.order.specs.declared.head.Figures.{Figures}
use Rattle.order.specs.Order.{Figure, sized, spelt}
use Rattle.order.specs.declared.reader.Size.{Size}
use Rattle.order.specs.declared.reader.Size.TheVariants.{Byte, Pair}
use Rattle.order.specs.Format.{Format, done, figure, taken, number_at, run}
use Rattle.order.proofs.Due.{due_good, due_bad, due_early, goes, stops}
use Rattle.order.proofs.Follows.{due, Follows, Spells, Early, Misfit, Tells, sized_long, sized_same, read_on, take_further, same_value, moved, wider, narrower}

-- some value is in range, and behind every low byte of a pair some pair is
abbrev pub Roomy : Size → (low high : ℕ) → Type 0
Roomy Byte low high = low ≤ high
Roomy Pair low high = (low ≤ 256) × (511 ≤ high)

-- every figure of the format has room
abbrev pub Open : Format → Type 0
Open (done h) = Unit {0}
Open (figure size low high next) = Roomy size low high × ((v : ℕ) → low ≤ v → v ≤ high → Open (next v))

roomy : (size : Size) (low high : ℕ) → Roomy size low high → low ≤ high
roomy Byte low high r = r
roomy Pair low high r = omega arith

pub record SomePath (t : Format) : Type 0 where
  pub path : List Figure
  pub end : Figures
  pub follows : Follows t path end

pub some_path : (t : Format) → Open t → SomePath t
some_path (done h) o = record { path = []; end = h; follows = refl }
some_path (figure size low high next) o =
    let le : low ≤ high = roomy size low high o.0 in
    let s = some_path (next low) (o.1 low (omega arith) le) in
    record { path = due size low high low ∷ s.path; end = s.end; follows = (refl, omega arith, le, s.follows) }

-- ---- one figure more
module _ (size : Size) (low high : ℕ) (next : ℕ → Format) (before file : List ℕ) (v : ℕ) (lo : low ≤ v) (hi : v ≤ high) where
  misfit_wider : (place : ℕ) → Misfit (next v) (before ++ sized size v) file place → Misfit (figure size low high next) before file place
  misfit_wider place m =
      let bs : List ℕ = flat_map spelt m.passed in
      let a = append_assoc before (sized size v) bs in
      record {
        head = m.head;
        passed = due size low high v ∷ m.passed;
        here = m.here;
        after = m.after;
        follows = (refl, lo, hi, m.follows);
        read = sym a ∙ m.read;
        from = ap length (sym a) ∙ m.from;
        there = m.there;
        wrong = λ rest h s.
            let n : ℕ = place + length (spelt m.here) in
            let d : List ℕ = drop place (take n file) in
            let e : (take n file ++ rest) ++ [] ≡ (before ++ sized size v) ++ (bs ++ (d ++ rest)) =
            append-nil (take n file ++ rest) ∙ (ap (λ l. l ++ rest) (sym (take_further place (length (spelt m.here)) file)) ∙ (append_assoc (take place file) d rest ∙ (ap (λ l. l ++ (d ++ rest)) (sym m.read) ∙ append_assoc (before ++ sized size v) bs (d ++ rest)))) in
            m.wrong rest h (narrower size low high next before v (take n file ++ rest) [] (bs ++ (d ++ rest)) h e s).2;
      }

  pub tells_wider : (r : Result Figures Fault) → Tells (next v) (before ++ sized size v) file r → Tells (figure size low high next) before file r
  tells_wider (Ok h) s = wider size low high next before v lo hi s
  tells_wider (Err e) (inl t) = inl (t.0, (t.1.0, t.1.1, t.1.2, wider size low high next before v lo hi t.1.3))
  tells_wider (Err e) (inr (inl t)) = inr (inl (t.0, t.1, misfit_wider t.0 t.2))
  tells_wider (Err e) (inr (inr t)) = inr (inr (t.0, t.1, (t.2.0, t.2.1, wider size low high next before v lo hi t.2.2)))

  module _ (rest' : List ℕ) (cut : file ≡ (before ++ sized size v) ++ rest') (open' : Open (next v)) where
    -- with the figure's bytes some file begins
    begins : (place n : ℕ) → length before ≡ place → n ≡ taken size → ((rest : List ℕ) (h : Figures) → Spells (figure size low high next) before (take (place + n) file ++ rest) h → ⊥) → ⊥
    begins place n e k wrong =
        let s = some_path (next v) open' in
        let long : length (before ++ sized size v) ≡ place + n = length-append before (sized size v) ∙ (omega (arith, sized_long size v)) in
        let t : take (place + n) file ≡ before ++ sized size v = ap (take (place + n)) cut ∙ take_at (before ++ sized size v) rest' (place + n) long in
        wrong (flat_map spelt s.path) s.end
        (wider size low high next before v lo hi (record { path = s.path; follows = s.follows; reads = ap (λ l. l ++ flat_map spelt s.path) (sym t) }))

    misfit_narrower : (place : ℕ) → Misfit (figure size low high next) before file place → Misfit (next v) (before ++ sized size v) file place
    misfit_narrower place m = go m.passed m.follows m.read m.from
      where
        go : (passed : List Figure) → Follows (figure size low high next) (passed ++ m.here ∷ m.after) m.head → before ++ flat_map spelt passed ≡ take place file → length (before ++ flat_map spelt passed) ≡ place → Misfit (next v) (before ++ sized size v) file place
        go [] f r l =
            let e : length (spelt m.here) ≡ taken size = ap (λ g. length (spelt g)) f.0 ∙ sized_long size m.here.value in
            absurd (begins place (length (spelt m.here)) (ap length (sym (append-nil before)) ∙ l) e m.wrong)
        go (g ∷ gs) f r l =
            let k : g.value ≡ v = same_value size low high next before v g (flat_map spelt gs) (drop place file) rest' f.0
            (ap (λ x. x ++ drop place file) r ∙ (take-append-drop place file ∙ cut)) in
            let j = moved size low high next before v g (flat_map spelt gs) f.0 k in
            record {
              head = m.head;
              passed = gs;
              here = m.here;
              after = m.after;
              follows = subst (λ n. Follows (next n) (gs ++ m.here ∷ m.after) m.head) k f.3;
              read = j ∙ r;
              from = ap length j ∙ l;
              there = m.there;
              wrong = λ rest h s. m.wrong rest h (wider size low high next before v lo hi s);
            }

    narrow : (w x y : List ℕ) (h : Figures) → w ++ x ≡ (before ++ sized size v) ++ y → Spells (figure size low high next) before w h → Spells (next v) (before ++ sized size v) w h
    narrow w x y h e s = (narrower size low high next before v w x y h e s).2

    pub tells_narrower : (r : Result Figures Fault) → Tells (figure size low high next) before file r → Tells (next v) (before ++ sized size v) file r
    tells_narrower (Ok h) s = narrow file [] rest' h (append-nil file ∙ cut) s
    tells_narrower (Err e) (inl t) =
        inl (
          t.0,
          (
            t.1.0,
            t.1.1,
            t.1.2,
            narrow (file ++ t.1.0) [] (rest' ++ t.1.0) t.1.1
                (append-nil (file ++ t.1.0) ∙ (ap (λ l. l ++ t.1.0) cut ∙ append_assoc (before ++ sized size v) rest' t.1.0)) t.1.3,
          ),
        )
    tells_narrower (Err e) (inr (inl t)) = inr (inl (t.0, t.1, misfit_narrower t.0 t.2))
    tells_narrower (Err e) (inr (inr t)) =
        inr (inr (t.0, t.1, (t.2.0, t.2.1, narrow (take t.0 file) (drop t.0 file) rest' t.2.0 (take-append-drop t.0 file ∙ cut) t.2.2)))

pub sized_some : (size : Size) (n : ℕ) (bs : List ℕ) → 0 < length (sized size n ++ bs)
sized_some Byte n bs = omega arith
sized_some Pair n bs = omega arith

-- ---- the outcome holds
module _ (size : Size) (low high : ℕ) (next : ℕ → Format) (open' : Open (figure size low high next)) (file : List ℕ) (at : ℕ) where
  at_end : length file ≤ at → Early (figure size low high next) (take at file) file
  at_end all =
      let le : low ≤ high = roomy size low high open'.0 in
      let s = some_path (next low) (open'.1 low (omega arith) le) in
      let bs : List ℕ = sized size low ++ flat_map spelt s.path in (
        bs,
        s.end,
        sized_some size low (flat_map spelt s.path),
        record {
          path = due size low high low ∷ s.path;
          follows = (refl, omega arith, le, s.follows);
          reads = ap (λ l. l ++ bs) (take_all at file all);
        },
      )

  module _ (small : (i : ℕ) → Fits w8 (get_or file i 0)) where
    misfit_here : at + taken size ≤ length file → (number_at size file at < low) ⊎ (high < number_at size file at) → Misfit (figure size low high next) (take at file) file at
    misfit_here there out =
        let le : low ≤ high = roomy size low high open'.0 in
        let s = some_path (next low) (open'.1 low (omega arith) le) in
        record {
          head = s.end;
          passed = [];
          here = due size low high low;
          after = s.path;
          follows = (refl, omega arith, le, s.follows);
          read = append-nil (take at file);
          from = ap length (append-nil (take at file)) ∙ length-take-le at file (omega arith);
          there = omega (arith, sized_long size low);
          wrong = λ rest h p.
              let w : List ℕ = take (at + length (sized size low)) file ++ rest in
              let e : w ++ [] ≡ (take at file ++ sized size (number_at size file at)) ++ rest =
              append-nil w ∙ ap (λ l. l ++ rest) (ap (λ n. take (at + n) file) (sized_long size low) ∙ read_on size file at small there) in
              let q = narrower size low high next (take at file) (number_at size file at) w [] rest h e p in
              let a = q.0 in
              let b = q.1 in
              ⊎_elim (λ x. omega arith) (λ x. omega arith) out;
        }

half : (low high : ℕ) (next : ℕ → Format) → Open (figure Pair low high next) → (file : List ℕ) (at : ℕ) → ((i : ℕ) → Fits w8 (get_or file i 0)) → at + 1 ≡ length file → Early (figure Pair low high next) (take at file) file
half low high next o file at small e =
    let b : ℕ = get_or file at 0 in
    let l : b < 256 = omega (arith, (small at).fits) in
    let lo : low ≤ b + 256 = omega arith in
    let hi : b + 256 ≤ high = omega arith in
    let s = some_path (next (b + 256)) (o.1 (b + 256) lo hi) in
    let bs : List ℕ = ((b + 256) / 256) ∷ flat_map spelt s.path in
    let k : b ≡ (b + 256) % 256 = omega arith in
    let f : take at file ++ b ∷ [] ≡ file = sym (take_more file at 0 (omega arith)) ∙ take_all (at + 1) file (omega arith) in (
      bs,
      s.end,
      omega arith,
      record {
        path = due Pair low high (b + 256) ∷ s.path;
        follows = (refl, lo, hi, s.follows);
        reads = ap (λ n. take at file ++ n ∷ bs) (sym k) ∙ (sym (append_assoc (take at file) (b ∷ []) bs) ∙ ap (λ x. x ++ bs) f);
      },
    )

early_here : (size : Size) (low high : ℕ) (next : ℕ → Format) → Open (figure size low high next) → (file : List ℕ) (at : ℕ) → ((i : ℕ) → Fits w8 (get_or file i 0)) → length file < at + taken size → Early (figure size low high next) (take at file) file
early_here Byte low high next o file at small h = at_end Byte low high next o file at (omega arith)
early_here Pair low high next o file at small h =
    ⊎_elim (λ lt. half low high next o file at small (omega arith)) (λ le. at_end Pair low high next o file at le) (cases_lt at (length file))

-- a value is in range, or it is not
within : (low high v : ℕ) → ((low ≤ v) × (v ≤ high)) ⊎ ((v < low) ⊎ (high < v))
within low high v = ⊎_elim (λ a. inr (inl a)) (λ a. ⊎_elim (λ b. inr (inr b)) (λ b. inl (a, b)) (cases_lt high v)) (cases_lt v low)

pub told : (t : Format) → Open t → (file : List ℕ) → ((i : ℕ) → Fits w8 (get_or file i 0)) → (at : ℕ) → at ≤ length file → Tells t (take at file) file (run t file at)
told (done h) o file small at le =
    ⊎_elim
    (λ lt. subst (Tells (done h) (take at file) file) (sym (cond-false _ _ _ (lt-leb (length file) at lt)))
    (inr (inr (at, refl, (h, lt, record { path = []; follows = refl; reads = append-nil (take at file) })))))
    (λ ge. subst (Tells (done h) (take at file) file) (sym (cond-true _ _ _ (le-leb (length file) at ge)))
    (record { path = []; follows = refl; reads = append-nil (take at file) ∙ take_all at file ge }))
    (cases_lt at (length file))
told (figure size low high next) o file small at le =
    let t : Format = figure size low high next in
    let v : ℕ = number_at size file at in
    let rest : ℕ → Result Figures Fault = λ n. run (next n) file (at + taken size) in
    ⊎_elim
    (λ short. subst (Tells t (take at file) file) (sym (stops rest (due_early size low high file at short)))
    (inl (refl, early_here size low high next o file at small short)))
    (λ there.
    ⊎_elim
    (λ r. subst (Tells t (take at file) file) (sym (goes rest (due_good size low high file at there r.0 r.1)))
    (tells_wider size low high next (take at file) file v r.0 r.1 (rest v)
    (subst (λ b. Tells (next v) b file (rest v)) (read_on size file at small there) (told (next v) (o.1 v r.0 r.1) file small (at + taken size) there))))
    (λ r. subst (Tells t (take at file) file) (sym (stops rest (due_bad size low high file at there r)))
    (inr (inl (at, refl, misfit_here size low high next o file at small there r))))
    (within low high v))
    (cases_lt (length file) (at + taken size))

-- ---- no other outcome does
module _ (h : Figures) (file : List ℕ) (at : ℕ) (le : at ≤ length file) where
  done_long : (w : List ℕ) (k : Figures) → Spells (done h) (take at file) w k → (h ≡ k) × (at ≡ length w)
  done_long w k s = go s.path s.follows s.reads
    where
      go : (path : List Figure) → Follows (done h) path k → take at file ++ flat_map spelt path ≡ w → (h ≡ k) × (at ≡ length w)
      go [] f r = (f, sym (length-take-le at file le) ∙ ap length (sym (append-nil (take at file)) ∙ r))
      go (g ∷ gs) f r = absurd f

  no_misfit : (passed : List Figure) (here : Figure) (after : List Figure) (k : Figures) → Follows (done h) (passed ++ here ∷ after) k → ⊥
  no_misfit [] here after k f = f
  no_misfit (g ∷ gs) here after k f = f

  done_alone : (r : Result Figures Fault) → Tells (done h) (take at file) file r → r ≡ run (done h) file at
  done_alone (Ok k) s =
      let p = done_long file k s in
      let q = p.1 in
      sym (cond-true _ _ _ (le-leb (length file) at (omega arith)) ∙ ap (λ x. Ok x) p.0)
  done_alone (Err e) (inl t) =
      let p = (done_long (file ++ t.1.0) t.1.1 t.1.3).1 in
      let q = t.1.2 in
      absurd (omega (arith, length-append file t.1.0))
  done_alone (Err e) (inr (inl t)) = absurd (no_misfit t.2.passed t.2.here t.2.after t.2.head t.2.follows)
  done_alone (Err e) (inr (inr t)) =
      let lt : t.0 < length file = t.2.1 in
      let p : at ≡ t.0 = (done_long (take t.0 file) t.2.0 t.2.2).1 ∙ length-take-le t.0 file (omega arith) in
      ap (λ x. Err x) (t.1 ∙ ap (fault_at FileGoesOn) (sym p)) ∙ sym (cond-false _ _ _ (lt-leb (length file) at (omega arith)))

module _ (size : Size) (low high : ℕ) (next : ℕ → Format) (file : List ℕ) (at : ℕ) (le : at ≤ length file) where
  figure_long : (f : Figure) (js : List ℕ) → f ≡ due size low high f.value → at + taken size ≤ length (take at file ++ (spelt f ++ js))
  figure_long f js e =
      let a : length (spelt f) ≡ taken size = ap (λ g. length (spelt g)) e ∙ sized_long size f.value in
      omega (arith, length-append (take at file) (spelt f ++ js), length-append (spelt f) js, length-take-le at file le)

  spells_long : (w : List ℕ) (k : Figures) → Spells (figure size low high next) (take at file) w k → at + taken size ≤ length w
  spells_long w k s = go s.path s.follows s.reads
    where
      go : (path : List Figure) → Follows (figure size low high next) path k → take at file ++ flat_map spelt path ≡ w → at + taken size ≤ length w
      go [] f r = absurd f
      go (g ∷ gs) f r = subst (λ l. at + taken size ≤ length l) r (figure_long g (flat_map spelt gs) f.0)

  here_long : (here : Figure) (after : List Figure) (k : Figures) → Follows (figure size low high next) (here ∷ after) k → length (spelt here) ≡ taken size
  here_long here after k f = ap (λ g. length (spelt g)) f.0 ∙ sized_long size here.value

  from_here : (place : ℕ) → length (take at file ++ []) ≡ place → place ≡ at
  from_here place e = sym e ∙ (ap length (append-nil (take at file)) ∙ length-take-le at file le)

  short_alone : length file < at + taken size → (r : Result Figures Fault) → Tells (figure size low high next) (take at file) file r → r ≡ Err (fault_at FileEndsEarly (length file))
  short_alone short (Ok k) s = absurd (omega (arith, spells_long file k s))
  short_alone short (Err e) (inl t) = ap (λ x. Err x) t.0
  short_alone short (Err e) (inr (inl t)) = absurd (go t.2.passed t.2.follows t.2.from)
    where
      go : (passed : List Figure) → Follows (figure size low high next) (passed ++ t.2.here ∷ t.2.after) t.2.head → length (take at file ++ flat_map spelt passed) ≡ t.0 → ⊥
      go [] f l = omega (arith, here_long t.2.here t.2.after t.2.head f, from_here t.0 l, t.2.there)
      go (g ∷ gs) f l = omega (arith, figure_long g (flat_map spelt gs) f.0, l, t.2.there)
  short_alone short (Err e) (inr (inr t)) =
      absurd (omega (arith, spells_long (take t.0 file) t.2.0 t.2.2, length-take-le t.0 file (omega (arith, t.2.1)), t.2.1))

  module _ (v : ℕ) (rest' : List ℕ) (cut : file ≡ (take at file ++ sized size v) ++ rest') (out : (v < low) ⊎ (high < v)) where
    never : low ≤ v → v ≤ high → ⊥
    never lo hi = ⊎_elim (λ x. omega arith) (λ x. omega arith) out

    none : (w x y : List ℕ) (k : Figures) → w ++ x ≡ (take at file ++ sized size v) ++ y → Spells (figure size low high next) (take at file) w k → ⊥
    none w x y k e s = let q = narrower size low high next (take at file) v w x y k e s in never q.0 q.1

    bad_alone : (r : Result Figures Fault) → Tells (figure size low high next) (take at file) file r → r ≡ Err (fault_at FigureOutOfRange at)
    bad_alone (Ok k) s = absurd (none file [] rest' k (append-nil file ∙ cut) s)
    bad_alone (Err e) (inl t) =
        absurd (none (file ++ t.1.0) [] (rest' ++ t.1.0) t.1.1
        (append-nil (file ++ t.1.0) ∙ (ap (λ l. l ++ t.1.0) cut ∙ append_assoc (take at file ++ sized size v) rest' t.1.0)) t.1.3)
    bad_alone (Err e) (inr (inl t)) = go t.2.passed t.2.follows t.2.read t.2.from
      where
        go : (passed : List Figure) → Follows (figure size low high next) (passed ++ t.2.here ∷ t.2.after) t.2.head → take at file ++ flat_map spelt passed ≡ take t.0 file → length (take at file ++ flat_map spelt passed) ≡ t.0 → ◌≡◌ {A = Result Figures Fault} (Err e) (Err (fault_at FigureOutOfRange at))
        go [] f r l = ap (λ x. Err x) (t.1 ∙ ap (fault_at FigureOutOfRange) (from_here t.0 l))
        go (g ∷ gs) f r l =
            let k : g.value ≡ v = same_value size low high next (take at file) v g (flat_map spelt gs) (drop t.0 file) rest' f.0
            (ap (λ x. x ++ drop t.0 file) r ∙ (take-append-drop t.0 file ∙ cut)) in
            absurd (never (subst (λ n. low ≤ n) k f.1) (subst (λ n. n ≤ high) k f.2))
    bad_alone (Err e) (inr (inr t)) =
        absurd (none (take t.0 file) (drop t.0 file) rest' t.2.0 (take-append-drop t.0 file ∙ cut) t.2.2)

pub alone : (t : Format) → Open t → (file : List ℕ) → ((i : ℕ) → Fits w8 (get_or file i 0)) → (at : ℕ) → at ≤ length file → (r : Result Figures Fault) → Tells t (take at file) file r → r ≡ run t file at
alone (done h) o file small at le r t = done_alone h file at le r t
alone (figure size low high next) o file small at le r t =
    let v : ℕ = number_at size file at in
    let rest : ℕ → Result Figures Fault = λ n. run (next n) file (at + taken size) in
    let after : List ℕ = drop (at + taken size) file in
    ⊎_elim
    (λ short. short_alone size low high next file at le short r t ∙ sym (stops rest (due_early size low high file at short)))
    (λ there.
    let on = read_on size file at small there in
    let cut : file ≡ (take at file ++ sized size v) ++ after = sym (take-append-drop (at + taken size) file) ∙ ap (λ l. l ++ after) on in
    ⊎_elim
    (λ i. alone (next v) (o.1 v i.0 i.1) file small (at + taken size) there r
    (subst (λ b. Tells (next v) b file r) (sym on) (tells_narrower size low high next (take at file) file v i.0 i.1 after cut (o.1 v i.0 i.1) r t))
    ∙ sym (goes rest (due_good size low high file at there i.0 i.1)))
    (λ i. bad_alone size low high next file at le v after cut i r t ∙ sym (stops rest (due_bad size low high file at there i)))
    (within low high v))
    (cases_lt (length file) (at + taken size))

-- ---- a path is told by its bytes
pub one_path : (t : Format) (figs gigs : List Figure) (h k : Figures) → Follows t figs h → Follows t gigs k → flat_map spelt figs ≡ flat_map spelt gigs → figs ≡ gigs
one_path (done d) [] [] h k f g e = refl
one_path (done d) [] (b ∷ gs) h k f g e = absurd g
one_path (done d) (a ∷ fs) gigs h k f g e = absurd f
one_path (figure size low high next) [] gigs h k f g e = absurd f
one_path (figure size low high next) (a ∷ fs) [] h k f g e = absurd g
one_path (figure size low high next) (a ∷ fs) (b ∷ gs) h k f g e =
    let p : sized size a.value ++ flat_map spelt fs ≡ sized size b.value ++ flat_map spelt gs =
    ap (λ l. l ++ flat_map spelt fs) (sym (ap spelt f.0)) ∙ (e ∙ ap (λ l. l ++ flat_map spelt gs) (ap spelt g.0)) in
    let v : a.value ≡ b.value = sized_same size a.value b.value (flat_map spelt fs) (flat_map spelt gs) p in
    let q : sized size b.value ++ flat_map spelt fs ≡ sized size b.value ++ flat_map spelt gs =
    ap (λ n. sized size n ++ flat_map spelt fs) (sym v) ∙ p in
    let r = one_path (next b.value) fs gs h k (subst (λ n. Follows (next n) fs h) v f.3) g.3 (append_cancel_left (sized size b.value) _ _ q) in
    let s : a ≡ b = f.0 ∙ (ap (due size low high) v ∙ sym g.0) in
    cc
