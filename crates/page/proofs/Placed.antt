-- What a page holds after a piece is put, amended or lifted.
use Rattle.std.proofs.Common.{◌≡◌, ℕ, zero, suc, ◌+◌, ◌-◌, ◌*◌, ◌^◌, ◌<◌, ◌≤◌, min, ◌≢◌, List, [], ◌∷◌, ◌++◌, length, get_or, take, drop, set, Ok, Err, Result, sym, refl, ap, ◌∙◌, inl, inr, add-one, arith}
use Rattle.std.proofs.lemmas.List.{append_assoc, length-append, length_push, length-take-le, length-drop, take-append-le, drop-append-le, drop-drop, take-append-drop, take_at, drop_at, set_at, set-append_left, get_or-set_same, get_or-set_other}
use Rattle.std.proofs.lemmas.Bool.{lt-ltb, cases_order}
use Rattle.std.proofs.lemmas.Bool.Decides.{nat_tests}
use Rattle.fault.specs.declared.refusal.Fault.{Fault}
use Rattle.fault.specs.Written.{overwrite}
use Rattle.measure.specs.Measures.{Functions}
use Rattle.measure.specs.Settings.{Setting, paired}
use Rattle.page.specs.Sound.{Here}
use Rattle.page.specs.Pieces.{PageData, data_of, Held, held, with_page, part, piece, pieces_to, pieces}
use Rattle.page.specs.declared.record.Page.{Page}
use Rattle.page.specs.Puts.{with_piece, Laid, Put}
use Rattle.page.specs.Amends.{sunk, with_amended, Amend}
use Rattle.page.specs.Lifts.{lifting, lift_leaves, without_last, Lift}
use Rattle.page.proofs.Tested.{fitting}

module _ {A : Type 0} where
  -- a part that lies in the front of a table
  part_front : (k n : ℕ) (front rest : List A) → 8 * k + n ≤ length front → part k n (front ++ rest) ≡ part k n front
  part_front k n front rest h =
      ap (take n) (drop-append-le (8 * k) front rest (omega arith))
      ∙ take-append-le n (drop (8 * k) front) rest (omega (arith, length-drop (8 * k) front))

  -- what is written behind a part leaves it
  part_below : (k n at : ℕ) (xs table : List A) → 8 * k + n ≤ at → at ≤ length table → part k n (overwrite at xs table) ≡ part k n table
  part_below k n at xs table h fits =
      let long = length-take-le at table fits in
      part_front k n (take at table) (xs ++ drop (at + length xs) table) (omega arith)
      ∙ sym (part_front k n (take at table) (drop at table) (omega arith))
      ∙ ap (part k n) (take-append-drop at table)

  -- what is written before a part leaves it
  part_above : (k n at : ℕ) (xs table : List A) → at + length xs ≤ 8 * k → at + length xs ≤ length table → part k n (overwrite at xs table) ≡ part k n table
  part_above k n at xs table h fits =
      let end = at + length xs in
      let long : length (take at table ++ xs) ≡ end = omega (arith, length-append (take at table) xs, length-take-le at table (omega arith)) in
      let far : end + (8 * k - end) ≡ 8 * k = omega arith in
      let behind : drop end (overwrite at xs table) ≡ drop end table = ap (drop end) (sym (append_assoc (take at table) xs (drop end table))) ∙ drop_at (take at table ++ xs) (drop end table) end long in
      ap (λ i. take n (drop i (overwrite at xs table))) (sym far)
      ∙ ap (take n) (sym (drop-drop (8 * k - end) end (overwrite at xs table)) ∙ ap (drop (8 * k - end)) behind ∙ drop-drop (8 * k - end) end table)
      ∙ ap (λ i. take n (drop i table)) far

  -- what is written as one part leaves the others
  part_other : (j k n : ℕ) (xs table : List A) → j ≢ k → n ≤ 8 → length xs ≤ 8 → 8 * k + length xs ≤ length table → part j n (overwrite (8 * k) xs table) ≡ part j n table
  part_other j k n xs table ne small short fits =
      elim (cases_order j k) [
        | inl e ↦ absurd (ne e)
        | inr (inl b) ↦ part_below j n (8 * k) xs table (omega arith) (omega arith)
        | inr (inr b) ↦ part_above j n (8 * k) xs table (omega arith) fits
      ]

  -- and is that part
  part_at : (k : ℕ) (xs table : List A) → 8 * k ≤ length table → part k (length xs) (overwrite (8 * k) xs table) ≡ xs
  part_at k xs table fits =
      ap (take (length xs)) (drop_at (take (8 * k) table) (xs ++ drop (8 * k + length xs) table) (8 * k) (length-take-le (8 * k) table fits))
      ∙ take_at xs (drop (8 * k + length xs) table) (length xs) refl

module _ {A : Type 0} where
  pub length-pieces : (h : Held A) (k : ℕ) → length (pieces_to h k) ≡ k
  length-pieces h zero = refl
  length-pieces h (suc k) = omega (arith, length_push (pieces_to h k) (piece h k), length-pieces h k)

  pieces_to_same : (g h : Held A) (k : ℕ) → ((j : ℕ) → j < k → piece g j ≡ piece h j) → pieces_to g k ≡ pieces_to h k
  pieces_to_same g h zero same = refl
  pieces_to_same g h (suc k) same = (λ i. pieces_to_same g h k (λ j b. same j (omega arith)) i ++ (same k (omega arith) i ∷ []))

  -- of n pieces just piece k differs
  pieces_to_set : (g h : Held A) (k n : ℕ) (p : List (Setting A)) → k < n → piece g k ≡ p → ((j : ℕ) → j < n → j ≢ k → piece g j ≡ piece h j) → pieces_to g n ≡ set (pieces_to h n) k p
  pieces_to_set g h k zero p b e same = absurd (omega arith)
  pieces_to_set g h k (suc n) p b e same =
      elim (cases_order k n) [
        | inl at ↦
            (λ i. pieces_to_same g h n (λ j c. same j (omega arith) (omega arith)) i ++ ((ap (piece g) (sym at) ∙ e) i ∷ []))
            ∙ sym (set_at (pieces_to h n) (piece h n) [] p k (length-pieces h n ∙ sym at))
        | inr (inl below) ↦
            (λ i. pieces_to_set g h k n p below e (λ j c. same j (omega arith)) i ++ (same n (omega arith) (omega arith) i ∷ []))
            ∙ sym (set-append_left (pieces_to h n) (piece h n ∷ []) k p (omega (arith, length-pieces h n)))
        | inr (inr above) ↦ absurd (omega arith)
      ]

  -- a page record and its tables in which just piece k has been written
  module _ (h : Held A) (k : ℕ) (ws : List ℕ) (xs : List A) (q : PageData) (changed : q.settings ≡ set h.page.settings k (length ws)) (few : k < 12) (dozen : length h.page.settings ≡ 12) (wide : 96 ≤ length h.widths) (deep : 96 ≤ length h.amounts) (short : length ws ≤ 8) (same : length ws ≡ length xs) where
    abbrev after : Held A
    after = record { page = q; widths = overwrite (8 * k) ws h.widths; amounts = overwrite (8 * k) xs h.amounts }

    other_piece : (j : ℕ) → j ≢ k → get_or h.page.settings j 0 ≤ 8 → piece after j ≡ piece h j
    other_piece j ne small =
        let n = get_or h.page.settings j 0 in
        let e : get_or q.settings j 0 ≡ n = ap (λ l. get_or l j 0) changed ∙ get_or-set_other h.page.settings k j (length ws) 0 ne in
        ap (λ v. paired (part j v (overwrite (8 * k) ws h.widths)) (part j v (overwrite (8 * k) xs h.amounts))) e
        ∙ (λ i. paired (part_other j k n ws h.widths ne small short (omega arith) i) (part_other j k n xs h.amounts ne small (omega arith) (omega arith) i))

    this_piece : piece after k ≡ paired ws xs
    this_piece =
        let e : get_or q.settings k 0 ≡ length ws = ap (λ l. get_or l k 0) changed ∙ get_or-set_same h.page.settings k (length ws) 0 (omega arith) in
        ap (λ v. paired (part k v (overwrite (8 * k) ws h.widths)) (part k v (overwrite (8 * k) xs h.amounts))) e
        ∙ ap (λ v. paired (part k (length ws) (overwrite (8 * k) ws h.widths)) (part k v (overwrite (8 * k) xs h.amounts))) same
        ∙ (λ i. paired (part_at k ws h.widths (omega arith) i) (part_at k xs h.amounts (omega arith) i))

    pieces_put : Here k h.page.settings → pieces_to after (k + 1) ≡ pieces_to h k ++ (paired ws xs ∷ [])
    pieces_put here =
        ap (pieces_to after) (add-one k)
        ∙ (λ i. pieces_to_same after h k (λ j b. other_piece j (omega arith) (here j b).1) i ++ (this_piece i ∷ []))

    pieces_amended : (n : ℕ) → k < n → Here n h.page.settings → pieces_to after n ≡ set (pieces_to h n) k (paired ws xs)
    pieces_amended n b here = pieces_to_set after h k n (paired ws xs) b this_piece (λ j c ne. other_piece j ne (here j c).1)

  -- all pieces but the last
  pieces_lifted : (h : Held A) (n : ℕ) (q : PageData) → 0 < n → q.settings ≡ set h.page.settings (n - 1) 0 → pieces_to (with_page q h) (n - 1) ≡ take (n - 1) (pieces_to h n)
  pieces_lifted h zero q some changed = absurd (omega arith)
  pieces_lifted h (suc n) q some changed =
      let e : suc n - 1 ≡ n = omega arith in
      ap (pieces_to (with_page q h)) e
      ∙ pieces_to_same (with_page q h) h n (λ j b. ap (λ v. paired (part j v h.widths) (part j v h.amounts)) (ap (λ l. get_or l j 0) changed ∙ get_or-set_other h.page.settings (suc n - 1) j 0 0 (omega arith)))
      ∙ sym (take_at (pieces_to h n) (piece h n ∷ []) n (length-pieces h n))
      ∙ ap (λ k. take k (pieces_to h (suc n))) (sym e)

-- one piece more, of n settings
abbrev with_last : ℕ → PageData → PageData
with_last n q = record { breadth = q.breadth; count = q.count + 1; settings = set q.settings q.count n; standing = q.standing }

-- a piece whose settings were laid into the tables is on the page
pub put_done : {A : Type 0} {m : Functions A} (p : Page) {ws widths widths' : List ℕ} {xs amounts amounts' : List A} {n : ℕ} →
    p.count < 12 → length p.settings ≡ 12 → Laid m p.count ws xs widths amounts widths' amounts' (Ok n) →
    Put m (held p widths amounts) ws xs (record { page = with_last n (data_of p); widths = widths'; amounts = amounts' }) (Ok p.count)
put_done {m = m} p {ws} {widths} {widths'} {xs} {amounts} {amounts'} {n} few dozen l =
    let f = fitting m ws xs (length widths) (length amounts) n (sym l.answer) in
    let h = held p widths amounts in
    let leaves : ◌≡◌ {A = Held _} (record { page = with_last n (data_of p); widths = widths'; amounts = amounts' }) (with_piece h ws xs) =
    (λ i. record { page = with_last (f.number i) (data_of p); widths = l.wide i; amounts = l.deep i }) in
    record {
      answer = sym (simp (lt-ltb p.count 12 few, f.room, f.test));
      leaves = leaves;
      holds = ap pieces leaves ∙ pieces_put h p.count ws xs (with_piece h ws xs).page refl few dozen f.wide f.deep f.good.few f.good.same p.here;
    }

-- another number of settings for piece k
abbrev with_settings : ℕ → ℕ → PageData → PageData
with_settings k n s = record { breadth = s.breadth; count = s.count; settings = set s.settings k n; standing = s.standing }

-- a piece whose settings were laid into the tables in place of its old ones is amended
pub amend_done : {A : Type 0} {m : Functions A} (p : Page) (q : PageData) {k rows r n : ℕ} {ws widths widths' : List ℕ} {xs amounts amounts' : List A} →
    q ≡ sunk rows (data_of p) → r ≡ p.standing - min p.standing rows → rows ≡ 2 ^ k - 1 →
    k < p.count → length p.settings ≡ 12 → Laid m k ws xs widths amounts widths' amounts' (Ok n) →
    Amend m (held p widths amounts) k ws xs (record { page = with_settings k n q; widths = widths'; amounts = amounts' }) (Ok r)
amend_done {m = m} p q {k} {rows} {r} {n} {ws} {widths} {widths'} {xs} {amounts} {amounts'} sank fell all there dozen l =
    let f = fitting m ws xs (length widths) (length amounts) n (sym l.answer) in
    let h = held p widths amounts in
    let page : with_settings k n q ≡ (with_amended h k ws xs).page = (λ i. with_settings k (f.number i) (sank i)) ∙ ap (λ v. with_settings k (length ws) (sunk v (data_of p))) all in
    let leaves : ◌≡◌ {A = Held _} (record { page = with_settings k n q; widths = widths'; amounts = amounts' }) (with_amended h k ws xs) = (λ i. record { page = page i; widths = l.wide i; amounts = l.deep i }) in
    record {
      answer = ap Ok (fell ∙ ap (λ v. p.standing - min p.standing v) all) ∙ sym (simp (lt-ltb k p.count there, f.room, f.test));
      leaves = leaves;
      holds = ap pieces leaves ∙ pieces_amended h k ws xs (with_amended h k ws xs).page refl (omega (arith, p.few)) dozen f.wide f.deep f.good.few f.good.same p.count there p.here;
    }

-- a lift is one whatever tables stand beside the record
pub lift_done : {A : Type 0} (h : Held A) (q : PageData) (r : Result ℕ Fault) → r ≡ lifting h.page → q ≡ lift_leaves r h.page → Lift h (with_page q h) r
lift_done h q (Ok n) a l =
    let some : 0 < h.page.count = grind (arith, nat_tests) in
    record {
      answer = a;
      leaves = ap (λ p. with_page p h) l;
      holds = ap (λ p. pieces (with_page p h)) l ∙ pieces_lifted h h.page.count (without_last h.page) some refl;
    }
lift_done h q (Err e) a l = record { answer = a; leaves = ap (λ p. with_page p h) l; holds = ap (λ p. pieces (with_page p h)) l }
