use Rattle.std.proofs.Common.{◌≡◌, ◌+◌, length, decimal, ◌∙◌, arith}
use Rattle.std.proofs.lemmas.List.{length-append}
use Rattle.std.proofs.lemmas.Fmt.{length-decimal-le}
use Rattle.fault.specs.Written.{overwrite, labelled}
use Rattle.fault.proofs.Overwrite.{wrote, overwrite_more}
use Rattle.fault.proofs.Digits.{overwrite_to}
use Rattle.fault.proofs.Filled.{room_there}
use Rattle.fault.proofs.numbers.write_labelled.Goals as goal

pub overflow_add-label : goal.overflow_add-label
overflow_add-label c = omega (arith, c.digits-count.ensures, length-decimal-le 20 c.args.n (omega arith) (omega arith) (omega arith))

pub returns : goal.returns
returns c =
    let label = c.args.label.now in
    let digits = decimal c.args.n in
    let out = c.args.out.now in
    let many : c.digits-count.result ≡ length digits = c.digits-count.ensures in
    let fits = room_there (length out) c.args.at (length label + c.digits-count.result) _ c.want_room.ensures c.in_ok-want_room.was in
    let long = length-append label digits in
    let from : c.write_digits.result ≡ c.args.at + length label = omega (arith, c.write_digits.ensures.start) in
    let over = overwrite_to c.write_digits.result (c.args.at + length label + c.digits-count.result) digits c.lay_over.new.out c.write_digits.new.buf c.write_digits.ensures.start c.write_digits.ensures.written c.write_digits.ensures.before in
    wrote (length (labelled label c.args.n)) (labelled label c.args.n) out c.args.at _ _ (omega arith) (omega arith)
    (over ∙ (λ i. overwrite (from i) digits (c.lay_over.ensures i)) ∙ overwrite_more c.args.at label digits out (omega arith))
    (omega arith)
