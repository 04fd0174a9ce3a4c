-- The text of a plan behind the front of a line.
use Rattle.std.proofs.Common.{◌≡◌, ℕ, ◌+◌, ◌*◌, ◌≤◌, List, [], ◌++◌, length, Ok, sym, refl, ap, ◌∙◌, subst, arith}
use Rattle.std.proofs.lemmas.List.{take_all}
use Rattle.std.proofs.lemmas.Bool.{le-leb}
use Rattle.fault.specs.declared.writer.Writer.{Writer}
use Rattle.fault.specs.Written.{overwrite}
use Rattle.fault.specs.WrittenBy as writers
use Rattle.fault.proofs.Filled.{Filled, filled_more}
use Rattle.fault.proofs.Overwrite.{length-overwrite}
use Rattle.layout.specs.declared.entry.Entry.{Entry}
use Rattle.layout.specs.Layouts.{Layout}
use Rattle.layout.specs.Texts.{plan_text, Spells}
use Rattle.layout.specs.Readings.{Ending, Room, Wrote, PlanRoom, PlanWrote}
use Rattle.layout.proofs.Back.{text_length}
use Rattle.layout.proofs.Cells.{most_entries}
use Rattle.layout.proofs.Collect.{spelt_at}

-- the text of a plan goes back from its end to its place
pub plan_room : (es : List Entry) (at size : ℕ) → PlanRoom es at size → Room es (length es) (at + 2 * length es) size
plan_room es at size p =
    let n = ap length p.whole.spelt in
    let fits = p.fits in
    record { front = []; layout = p.layout; ending = subst (λ l. Ending l [] p.layout) (sym (take_all (length es) es (omega arith))) p.whole; within = omega arith; fits = omega arith; inside = fits }

pub plan_wrote : (es : List Entry) (before : List ℕ) (at : ℕ) (after : List ℕ) (entry start : ℕ) → Wrote es before (length es) (at + 2 * length es) after entry start → PlanWrote es before at after (at + 2 * length es)
plan_wrote es before at after entry start w x h =
    let n = ap length h.spelt in
    let done = w [] x (subst (λ l. Ending l [] x) (sym (take_all (length es) es (omega arith))) h) in
    let first : start ≡ at = omega (arith, done.start_is) in
    record { behind = omega (arith, text_length x); memory = done.memory ∙ ap (λ k. overwrite k (plan_text x) before) first }

-- behind the front of a line, which takes at most 21 bytes, there is room for the text of every plan
module _ (w v : Writer) (front : List ℕ) (fits : w.at + 80 ≤ length w.out.now) (f : Filled 21 w front v) where
  same_length : length v.out.now ≡ length w.out.now
  same_length = ap length f.memory ∙ length-overwrite w.at front w.out.now (omega (arith, f.short))

  pub room_for_plan : (es : List Entry) → (x : Layout) × Spells es x → PlanRoom es v.at (length v.out.now)
  room_for_plan es (x, s) =
      record { layout = x; whole = spelt_at es x s; fits = omega (arith, f.behind, f.short, same_length, most_entries x s.tellable, ap length s.spelt) }

  pub plan_filled : (es : List Entry) (u : Writer) → u.out.ghost_name ≡ v.out.ghost_name → PlanWrote es v.out.now v.at u.out.now u.at → (x : Layout) → Spells es x → Filled 80 w (front ++ plan_text x) u
  plan_filled es u same p x s =
      let q = p x (spelt_at es x s) in
      let n = length (plan_text x) in
      let short : 21 + n ≤ 80 = omega (arith, text_length x, most_entries x s.tellable) in
      let b = le-leb (v.at + n) (length v.out.now) (omega (arith, f.behind, f.short, same_length)) in
      let wrote : writers.WrittenBy n (plan_text x) v u (Ok tt) =
      record { same = same; within = λ _. omega arith; answer = rw b refl; memory = rw b q.memory; behind = rw b q.behind } in
      (filled_more 80 w fits 21 80 n front (plan_text x) v u (Ok tt) short (omega arith) f wrote).1
