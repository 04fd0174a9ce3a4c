use Rattle.std.proofs.Common.{◌≡◌, ℕ, Result, Ok, Err, refl, sym, ap, ◌∙◌}
use Rattle.std.proofs.lemmas.Result.{err_from_is_err_and}
use Rattle.fault.specs.declared.refusal.Fault.{Fault}
use Rattle.order.specs.declared.head.Figures.{Figures}
use Rattle.order.specs.declared.reader.Reader.{Reader}
use Rattle.order.specs.Format.{Format, done, counts, widths, pairs, head_first, order_format, run}
use Rattle.order.specs.Passing.{Passes, Skips}
use Rattle.order.proofs.Due.{goes_on, stops_at}
use Rattle.order.proofs.Orders.{last_part, behind}
use Rattle.order.proofs.reader.Reader.order.Goals as goal

-- at the exit of a `?`, which hands the fault on
handed_on : {all r : Result Figures Fault} {e : Fault} → (d : Fault) × (r ≡ Err d) × (d ≡ e) → all ≡ Err e → all ≡ r
handed_on p h = h ∙ (ap (λ x. Err x) (sym p.2) ∙ sym p.1)

module _ (r : Reader) where
  abbrev all : Result Figures Fault
  all = run order_format r.file.now r.at

  -- so far the file is good, and what is to follow stands at this reader's place
  abbrev Left : Format → Reader → Type 0
  Left t s = (s.file.now ≡ r.file.now) × (all ≡ run t r.file.now s.at)

  module _ (s : Reader) where
    passed : {A : Type 0} (part : (A → Format) → Format) (next : A → Format) (a : A) (u : Reader) → Left (part next) s → Passes part s (Ok (a, u)) → Left (next a) u
    passed part next a u l p = (p.0 ∙ l.0, goes_on r.file.now s.file.now l.0 (part next) s.at all l.1 (next a) u.at (p.1 next))

    not_passed : {A : Type 0} (part : (A → Format) → Format) (next : A → Format) (e : Fault) → Left (part next) s → Passes part s (Err e) → all ≡ Err e
    not_passed part next e l p = stops_at r.file.now s.file.now l.0 (part next) s.at all l.1 e (p next)

    skipped : (part : Format → Format) (next : Format) (u : Reader) → Left (part next) s → Skips part s (Ok u) → Left next u
    skipped part next u l p = (p.0 ∙ l.0, goes_on r.file.now s.file.now l.0 (part next) s.at all l.1 next u.at (p.1 next))

    not_skipped : (part : Format → Format) (next : Format) (e : Fault) → Left (part next) s → Skips part s (Err e) → all ≡ Err e
    not_skipped part next e l p = stops_at r.file.now s.file.now l.0 (part next) s.at all l.1 e (p next)

    ended : (h : Figures) (x : Result Figures Fault) → Left (done h) s → run (done h) s.file.now s.at ≡ x → all ≡ x
    ended h x l p = l.1 ∙ (ap (λ f. run (done h) f s.at) (sym l.0) ∙ p)

  -- the head, the counts, the widths and the pairs are read
  module _ (h : Figures) (n : ℕ) (s t u v : Reader) where
    counts_left : Passes head_first r (Ok (h, s)) → Left (behind h) s
    counts_left = passed r head_first behind h s (refl, refl)

    widths_left : Left (behind h) s → Passes (counts h.pieces 0) s (Ok (n, t)) → Left (last_part h n) t
    widths_left = passed s (counts h.pieces 0) (last_part h) n t

    pairs_left : Left (last_part h n) t → Skips (widths n) t (Ok u) → Left (pairs n (done h)) u
    pairs_left = skipped t (widths n) (pairs n (done h)) u

    none_left : Left (pairs n (done h)) u → Skips (pairs n) u (Ok v) → Left (done h) v
    none_left = skipped u (pairs n) (done h) v

pub returns-in_err-figures : goal.returns-in_err-figures
returns-in_err-figures c =
    let r = c.args.self in
    handed_on (err_from_is_err_and c.from_residual.result c.from_residual.ensures.1) (not_passed r r head_first behind _ (refl, refl) c.in_err-figures.ensures)

pub returns-in_err-settings : goal.returns-in_err-settings
returns-in_err-settings c =
    let r = c.args.self in
    let h = c.in_ok-figures.figures in
    let s = c.in_ok-figures.reader in
    let a = counts_left r h 0 s r r r c.in_ok-figures.ensures in
    let x = c.from_residual-in_err-settings in
    handed_on (err_from_is_err_and x.result x.ensures.1) (not_passed r s (counts h.pieces 0) (last_part h) _ a c.in_err-settings.ensures)

pub returns-in_err-skip_widths : goal.returns-in_err-skip_widths
returns-in_err-skip_widths c =
    let r = c.args.self in
    let h = c.in_ok-figures.figures in
    let n = c.in_ok-settings.settings in
    let s = c.in_ok-figures.reader in
    let t = c.in_ok-settings.reader in
    let a = counts_left r h n s t r r c.in_ok-figures.ensures in
    let b = widths_left r h n s t r r a c.in_ok-settings.ensures in
    let x = c.from_residual-in_err-skip_widths in
    handed_on (err_from_is_err_and x.result x.ensures.1) (not_skipped r t (widths n) (pairs n (done h)) _ b c.in_err-skip_widths.ensures)

pub returns-in_err-pairs : goal.returns-in_err-pairs
returns-in_err-pairs c =
    let r = c.args.self in
    let h = c.in_ok-figures.figures in
    let n = c.in_ok-settings.settings in
    let s = c.in_ok-figures.reader in
    let t = c.in_ok-settings.reader in
    let u = c.in_ok-skip_widths.field-0 in
    let a = counts_left r h n s t u r c.in_ok-figures.ensures in
    let b = widths_left r h n s t u r a c.in_ok-settings.ensures in
    let d = pairs_left r h n s t u r b c.in_ok-skip_widths.ensures in
    let x = c.from_residual-in_err-pairs in
    handed_on (err_from_is_err_and x.result x.ensures.1) (not_skipped r u (pairs n) (done h) _ d c.in_err-pairs.ensures)

pub returns-in_err-end : goal.returns-in_err-end
returns-in_err-end c =
    let r = c.args.self in
    let h = c.in_ok-figures.figures in
    let n = c.in_ok-settings.settings in
    let s = c.in_ok-figures.reader in
    let t = c.in_ok-settings.reader in
    let u = c.in_ok-skip_widths.field-0 in
    let v = c.in_ok-pairs.field-0 in
    let a = counts_left r h n s t u v c.in_ok-figures.ensures in
    let b = widths_left r h n s t u v a c.in_ok-settings.ensures in
    let d = none_left r h n s t u v (pairs_left r h n s t u v b c.in_ok-skip_widths.ensures) c.in_ok-pairs.ensures in
    let x = c.from_residual-in_err-end in
    handed_on (err_from_is_err_and x.result x.ensures.1) (ended r v h _ d (c.in_err-end.ensures h))

pub returns : goal.returns
returns c =
    let r = c.args.self in
    let h = c.in_ok-figures.figures in
    let n = c.in_ok-settings.settings in
    let s = c.in_ok-figures.reader in
    let t = c.in_ok-settings.reader in
    let u = c.in_ok-skip_widths.field-0 in
    let v = c.in_ok-pairs.field-0 in
    let a = counts_left r h n s t u v c.in_ok-figures.ensures in
    let b = widths_left r h n s t u v a c.in_ok-settings.ensures in
    let d = none_left r h n s t u v (pairs_left r h n s t u v b c.in_ok-skip_widths.ensures) c.in_ok-pairs.ensures in
    ended r v h _ d (c.in_ok-end.ensures h)
