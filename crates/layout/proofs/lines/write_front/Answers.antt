use Rattle.std.proofs.Common.{◌≡◌, ℕ, ◌+◌, ◌<◌, ◌≤◌, List, [], ◌++◌, length, Ok, codes, decimal, Result, ap, arith}
use Rattle.fault.specs.declared.refusal.Fault.{Fault}
use Rattle.fault.specs.declared.writer.Writer.{Writer}
use Rattle.fault.specs.Written.{labelled}
use Rattle.fault.specs.WrittenBy.{WrittenBy}
use Rattle.fault.proofs.Filled.{Filled, labelled_first, filled_more, filled_wrote, stopped, room_there}
use Rattle.layout.proofs.lines.write_front.Goals as goal

module _ (w : Writer) (fits : w.at + 21 ≤ length w.out.now) where
  -- the width is not refused, nor the space behind it, nor the amount behind that
  width : (n : ℕ) (v : Writer) (r : Result (Unit {0}) Fault) → n < 1000 → WrittenBy (length (labelled [] n)) (labelled [] n) w v r → (r ≡ Ok tt) × Filled 3 w (decimal n) v
  width n v r small = labelled_first 21 w fits 3 3 [] n v r (omega arith) small (omega arith) (omega arith) (omega arith)

  spaced : (xs : List ℕ) (v u : Writer) (r : Result (Unit {0}) Fault) → Filled 3 w xs v → WrittenBy 1 (codes " ") v u r → (r ≡ Ok tt) × Filled 4 w (xs ++ codes " ") u
  spaced xs v u r = filled_more 21 w fits 3 4 1 xs (codes " ") v u r (omega arith) (omega arith)

  amount : (xs ys : List ℕ) (v u : Writer) (r : Result (Unit {0}) Fault) → Filled 4 w xs v → WrittenBy 16 ys v u r → (r ≡ Ok tt) × Filled 20 w (xs ++ ys) u
  amount xs ys v u r = filled_more 21 w fits 4 20 16 xs ys v u r (omega arith) (omega arith)

pub returns-in_err-labelled : goal.returns-in_err-labelled
returns-in_err-labelled g c =
    let fits = room_there _ _ 21 _ c.wants.ensures c.in_ok-wants.was in
    absurd (stopped (width _ fits _ _ _ (omega (arith, c.from.ensures)) c.labelled.ensures) c.in_err-labelled.was)

pub returns-in_err-text : goal.returns-in_err-text
returns-in_err-text g c =
    let fits = room_there _ _ 21 _ c.wants.ensures c.in_ok-wants.was in
    let one = width _ fits _ _ _ (omega (arith, c.from.ensures)) c.labelled.ensures in
    absurd (stopped (spaced _ fits _ _ _ _ one.1 c.text.ensures) c.in_err-text.was)

pub returns-in_err-write : goal.returns-in_err-write
returns-in_err-write g c =
    let fits = room_there _ _ 21 _ c.wants.ensures c.in_ok-wants.was in
    let one = width _ fits _ _ _ (omega (arith, c.from.ensures)) c.labelled.ensures in
    let two = spaced _ fits _ _ _ _ one.1 c.text.ensures in
    absurd (stopped (amount _ fits _ _ _ _ _ two.1 c.write.ensures) c.in_err-write.was)

pub returns : goal.returns
returns g c =
    let w = c.args.out.now in
    let fits = room_there _ _ 21 _ c.wants.ensures c.in_ok-wants.was in
    let one = width _ fits _ _ _ (omega (arith, c.from.ensures)) c.labelled.ensures in
    let two = spaced _ fits _ _ _ _ one.1 c.text.ensures in
    let three = amount _ fits _ _ _ _ _ two.1 c.write.ensures in
    let four = filled_more 21 w fits 20 21 1 _ (codes " ") _ _ _ (omega arith) (omega arith) three.1 c.text-2.ensures in
    let text = (g.M.Filed.filing c.args.m.now).text c.args.amount in
    filled_wrote 21 w fits 21 _ _ _ _ (omega arith) four.0 (ap (λ n. decimal n ++ codes " " ++ text ++ codes " ") c.from.ensures) four.1
