-- What `scroll` says of a file, from what its calls answer.
use Rattle.std.proofs.Common.{◌≡◌, ℕ, ◌+◌, ◌≤◌, Bool, true, false, cond, leb, List, [], ◌∷◌, length, Ok, Err, Result, sym, refl, ap, ◌∙◌, subst, arith}
use Rattle.std.proofs.lemmas.Bool.{le-leb}
use Rattle.fault.specs.declared.refusal.Refusal.TheVariants.{Memory}
use Rattle.fault.specs.declared.refusal.Fault.{Fault}
use Rattle.fault.specs.Faults.{fault}
use Rattle.fault.specs.Lines.{refusal_text}
use Rattle.fault.specs.Written.{overwrite, Written}
use Rattle.fault.proofs.Overwrite.{written_ok}
use Rattle.measure.specs.Measures.{Functions}
use Rattle.measure.specs.Products.{depth, gutter}
use Rattle.measure.specs.Filing.{Filing, depth_filing}
use Rattle.page.specs.Pieces.{PageData, Held, empty}
use Rattle.page.specs.Puts.{putting, with_piece}
use Rattle.order.specs.declared.head.Figures.{Figures}
use Rattle.order.specs.Order.{FiledSetting, Order, Reads}
use Rattle.order.specs.Told.{head, Told, Settled}
use Rattle.order.specs.Fills.{widths_of, amounts_of, Outcome, go_on, filling, Filled}
use Rattle.order.specs.Headings.{heading}
use Rattle.scroll.specs.Summary.{fresh, scrolled, Lined, Summed, Says, SaysOf, Replied}

unlike : {X E : Type 0} {x : X} {e : E} → ◌≡◌ {A = Result X E} (Ok x) (Err e) → ⊥
unlike h = let z : ◌≡◌ {A = ℕ} 0 1 = cc in omega arith

same_ok : {X E : Type 0} {x y : X} → ◌≡◌ {A = Result X E} (Ok x) (Ok y) → x ≡ y
same_ok h = cc

same_err : {X E : Type 0} {x y : E} → ◌≡◌ {A = Result X E} (Err x) (Err y) → x ≡ y
same_err h = cc

-- a page that was filled with n pieces has n pieces, and its breadth stays
pub record Full {A : Type 0} (n b : ℕ) (k : Held A) : Type 0 where
  pub count : k.page.count ≡ n
  pub breadth : k.page.breadth ≡ b

pub filled_full : {A : Type 0} (m : Functions A) (f : Filing A) (k : ℕ) (ps : List (List FiledSetting)) (h : Held A) (n : ℕ) → h.page.count ≡ k → (filling m f k ps h).answer ≡ Ok n → Full n h.page.breadth (filling m f k ps h).leaves
filled_full m f k [] h n c e = record { count = c ∙ same_ok e; breadth = refl }
filled_full {A = A} m f k (p ∷ ps) h n c e =
    by (putting m h (widths_of p) (amounts_of f p)) (filled_full m f (k + 1) ps (with_piece h (widths_of p) (amounts_of f p)) n (ap (λ x. x + 1) c)) e
  where
    by : {next : Outcome A} (q : Result ℕ Fault) → (next.answer ≡ Ok n → Full n h.page.breadth next.leaves) → (go_on q k h next).answer ≡ Ok n → Full n h.page.breadth (go_on q k h next).leaves
    by (Ok j) rest e = rest e
    by (Err x) rest e = absurd (unlike (sym e))

pub scrolled_full : (o : Order) (scratch : ℕ) (h : Held ℕ) (n : ℕ) → (scrolled o scratch h).answer ≡ Ok n → Full n o.breadth (scrolled o scratch h).leaves
scrolled_full o scratch h n e = by (leb 8 scratch) e
  where
    by : (b : Bool) → (cond b (filling (gutter depth o.gutter) depth_filing 0 o.pieces (fresh o h)) (record { answer = Err (fault Memory); leaves = fresh o h })).answer ≡ Ok n → Full n o.breadth (cond b (filling (gutter depth o.gutter) depth_filing 0 o.pieces (fresh o h)) (record { answer = Err (fault Memory); leaves = fresh o h })).leaves
    by true e = filled_full (gutter depth o.gutter) depth_filing 0 o.pieces (fresh o h) n refl e
    by false e = absurd (unlike (sym e))

module _ (file : List ℕ) (r : Result Figures Fault) (settled : Settled file r) (scratch : ℕ) (h : Held ℕ) (before : List ℕ) where
  pub summed_refused : (x : Fault) (s : Result ℕ Fault) → r ≡ Err x → s ≡ Err x → Summed file scratch h h before before s
  summed_refused x s e a = record {
    refused = λ y t. (let same = settled.alone (Err y) t in cc, (refl, refl));
    leaves = λ o reads. absurd (unlike (settled.alone (Ok (head o)) (o, reads, refl) ∙ e));
    line = λ o reads. absurd (unlike (settled.alone (Ok (head o)) (o, reads, refl) ∙ e));
    short = λ n z. absurd (unlike (sym z ∙ a));
  }

  module _ (x : Figures) (is : r ≡ Ok x) (g : ℕ) (gap : g ≡ x.gutter) (page : PageData) (opened : page ≡ empty x.breadth) (k : Held ℕ) (q : Result ℕ Fault)
      (fills : Filled (gutter depth g) depth_filing file scratch (record { page = page; widths = h.widths; amounts = h.amounts }) k q) where
    -- the fill was that of the order that the file spells
    outcome : (o : Order) → Reads file o → record { answer = q; leaves = k } ≡ scrolled o scratch h
    outcome o reads =
        let same : head o ≡ x = same_ok (settled.alone (Ok (head o)) (o, reads, refl) ∙ is) in
        let gutters : g ≡ o.gutter = gap ∙ ap (λ (y : Figures). y.gutter) (sym same) in
        let pages : page ≡ empty o.breadth = opened ∙ ap (λ (y : Figures). empty y.breadth) (sym same) in
        fills.put o reads
        ∙ (λ i. cond (leb 8 scratch) (filling (gutter depth (gutters i)) depth_filing 0 o.pieces (record { page = pages i; widths = h.widths; amounts = h.amounts })) (record { answer = Err (fault Memory); leaves = record { page = pages i; widths = h.widths; amounts = h.amounts } }))

    told_not : (e : Fault) → Told file (Err e) → ⊥
    told_not e t = unlike (sym is ∙ sym (settled.alone (Err e) t))

    pub summed_stopped : (y : Fault) (s : Result ℕ Fault) → q ≡ Err y → s ≡ Err y → Summed file scratch h k before before s
    summed_stopped y s e a = record {
      refused = λ z t. absurd (told_not z t);
      leaves = λ o reads. ap (λ (w : Outcome ℕ). w.leaves) (outcome o reads);
      line = λ o reads. subst (λ v. Lined v o.breadth before before s) (sym e ∙ ap (λ (w : Outcome ℕ). w.answer) (outcome o reads)) (a, refl);
      short = λ n z. absurd (unlike (sym z ∙ a));
    }

    pub summed_told : (n : ℕ) (after : List ℕ) (s : Result ℕ Fault) → q ≡ Ok n → Written 80 (heading k.page.count k.page.breadth) before 0 after s → Summed file scratch h k before after s
    summed_told n after s e w = record {
      refused = λ z t. absurd (told_not z t);
      leaves = λ o reads. ap (λ (w : Outcome ℕ). w.leaves) (outcome o reads);
      line = λ o reads.
          let f = scrolled_full o scratch h n (ap (λ (w : Outcome ℕ). w.answer) (sym (outcome o reads)) ∙ e) in
          let left : k ≡ (scrolled o scratch h).leaves = ap (λ (w : Outcome ℕ). w.leaves) (outcome o reads) in
          let c : k.page.count ≡ n = ap (λ (z : Held ℕ). z.page.count) left ∙ f.count in
          let b : k.page.breadth ≡ o.breadth = ap (λ (z : Held ℕ). z.page.breadth) left ∙ f.breadth in
          subst (λ v. Lined v o.breadth before after s) (sym e ∙ ap (λ (w : Outcome ℕ). w.answer) (outcome o reads))
          (subst (λ t. Written 80 t before 0 after s) (λ i. heading (c i) (b i)) w);
      short = λ j z. (let v = written_ok 80 (heading k.page.count k.page.breadth) before 0 after s j w z in omega (arith, v.1.0, w.within v.0));
    }

-- the line of what stands on the page
pub replied_told : (file : List ℕ) (scratch : ℕ) (h k : Held ℕ) (before after : List ℕ) (end : ℕ) → Summed file scratch h k before after (Ok end) → Replied file scratch h k before after (Ok end)
replied_told file scratch h k before after end s = record {
  refused = λ e t. absurd (unlike (s.refused e t).0);
  leaves = s.leaves;
  line = λ o reads. by (scrolled o scratch h).answer o.breadth (s.line o reads);
  short = s.short end refl;
}
  where
    by : (q : Result ℕ Fault) (breadth : ℕ) → Lined q breadth before after (Ok end) → SaysOf q breadth before after (Ok end)
    by (Ok n) breadth w = let v = written_ok 80 (heading n breadth) before 0 after (Ok end) end w refl in record { end = ap Ok (v.1.0 ∙ omega arith); memory = v.1.1 }
    by (Err e) breadth w = absurd (unlike w.0)

-- the line of the refusal
pub replied_refused : (file : List ℕ) (scratch : ℕ) (h k : Held ℕ) (before middle after : List ℕ) (x : Fault) (s : Result ℕ Fault) (end : ℕ) → 80 ≤ length before → Summed file scratch h k before middle (Err x) → Written 80 (refusal_text x) middle 0 after s → s ≡ Ok end → Replied file scratch h k before after (Err end)
replied_refused file scratch h k before middle after x s end room sum w is =
    let v = written_ok 80 (refusal_text x) middle 0 after s end w is in
    let says : middle ≡ before → Says Err (refusal_text x) before after (Err end) =
    λ same. record { end = ap Err (v.1.0 ∙ omega arith); memory = v.1.1 ∙ ap (overwrite 0 (refusal_text x)) same } in
    record {
      refused = λ e t. (let r = sum.refused e t in (r.1.0, subst (λ f. Says Err (refusal_text f) before after (Err end)) (same_err r.0) (says r.1.1)));
      leaves = sum.leaves;
      line = λ o reads. by (scrolled o scratch h).answer o.breadth says (sum.line o reads);
      short = omega (arith, v.1.0, w.within v.0);
    }
  where
    by : (q : Result ℕ Fault) (breadth : ℕ) → (middle ≡ before → Says Err (refusal_text x) before after (Err end)) → Lined q breadth before middle (Err x) → SaysOf q breadth before after (Err end)
    by (Ok n) breadth says l = let a : Err x ≡ Ok (0 + length (heading n breadth)) = l.answer ∙ rw (le-leb 80 (length before) room) in absurd (unlike (sym a))
    by (Err e) breadth says l = subst (λ f. Says Err (refusal_text f) before after (Err end)) (same_err l.0) (says l.1)
