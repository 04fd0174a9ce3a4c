use Rattle.std.proofs.Common.{◌≡◌, ◌<◌, length, take, drop, Ok, Err, sym, refl, ap, ◌∙◌, arith}
use Rattle.std.proofs.lemmas.List.{length-take-le}
use Rattle.std.proofs.lemmas.Result.{err_from_is_err_and}
use Rattle.page.specs.Tables.{held_in}
use Rattle.order.specs.Order.{Order, Reads}
use Rattle.order.specs.Fills.{amounts_at}
use Rattle.order.proofs.Filed.{Lies, Next, parts, behind_head, begun, moved, all_put, same_number, next_lies, next_put}
use Rattle.order.proofs.filling.put_pieces.Given.{Over}
use Rattle.order.proofs.filling.put_pieces.Goals as goal
use Rattle.order.proofs.filling.put_pieces.Goals.{After-from-count, After-put_piece}

pub split_at-requires : goal.split_at-requires
split_at-requires g c = omega (arith, (parts c.args.file.now c.requires.0.0 c.args.pieces c.requires.0.1 c.requires.0.2).some, ap length (behind_head c.args.file.now), c.from.ensures)

pub loop-piece-init : goal.loop-piece-init
loop-piece-init g c = (
  record { widths = refl; amounts = refl },
  λ o r.
      let f = c.args.file.now in
      let n = same_number f o c.requires.0.0 r c.requires.0.1 ∙ c.requires.0.2 ∙ sym c.from.ensures in
      begun _ _ f o _ c.from.result r n _ c.split_at.result.1.now _ _
      (c.split_at.ensures.front ∙ ap (take c.from.result) (behind_head f)) (c.split_at.ensures.back ∙ ap (drop c.from.result) (behind_head f)) c.split_at-2.ensures.front c.split_at-2.ensures.back,
)

-- the settings of the next piece are there
lies : (g : Over) (c : goal.After-from-count g) → Lies c.from-count.result c.loop-piece.widths.now c.loop-piece.pairs.now
lies g c = next_lies (c.loop-piece.invariant.1 c.requires.0.0 c.requires.0.1) (omega (arith, c.requires.0.2, c.from.ensures, c.split_at.ensures.front_len)) c.from-count.result c.from-count.ensures

pub split_at-requires-in-loop-piece : goal.split_at-requires-in-loop-piece
split_at-requires-in-loop-piece g c = (lies g c).wide

pub split_at-requires-in-loop-piece-2 : goal.split_at-requires-in-loop-piece-2
split_at-requires-in-loop-piece-2 g c = (lies g (goal.at.split_at-requires-in-loop-piece-2 g c).After-from-count).deep

pub slice_bounds-amounts-end : goal.slice_bounds-amounts-end
slice_bounds-amounts-end g c = omega (arith, (lies g (goal.at.slice_bounds-amounts-end g c).After-from-count).few, c.requires.1)

pub slice_bounds-amounts-end-in-loop-piece : goal.slice_bounds-amounts-end-in-loop-piece
slice_bounds-amounts-end-in-loop-piece g c = sym (length-take-le c.from-count.result c.loop-piece.scratch (omega (arith, (lies g (goal.at.slice_bounds-amounts-end-in-loop-piece g c).After-from-count).few, c.requires.1)))

pub read_amounts-requires : goal.read_amounts-requires
read_amounts-requires g c =
    omega (arith, c.split_at-in-loop-piece-2.ensures.front_len, length-take-le c.from-count.result c.loop-piece.scratch (omega (arith, (lies g (goal.at.read_amounts-requires g c).After-from-count).few, c.requires.1)))

-- what comes of the put
next : (g : Over) (c : goal.After-put_piece g) (o : Order) → Reads c.args.file.now o → (q : _) → c.put_piece.result ≡ q →
    Next (g.M.Measure.functions c.args.m.now) (g.M.Filed.filing c.args.m.now) o (held_in c.args.page.now c.args.tables.now) (held_in c.put_piece.new.page c.put_piece.new.tables) c.loop-piece.piece c.from-count.result c.split_at.result.0.now c.loop-piece.widths.now c.loop-piece.pairs.now q
next g c o r q is =
    let f = g.M.Filed.filing c.args.m.now in
    let stage = c.loop-piece.invariant.1 o r in
    let more : c.loop-piece.piece < length o.pieces = omega (arith, same_number c.args.file.now o c.requires.0.0 r c.requires.0.1, c.requires.0.2, c.from.ensures, c.split_at.ensures.front_len) in
    let long = length-take-le c.from-count.result c.loop-piece.scratch (omega (arith, (next_lies stage more c.from-count.result c.from-count.ensures).few, c.requires.1)) in
    next_put stage more c.from-count.result c.from-count.ensures _ _ c.split_at-in-loop-piece.ensures.front
    (c.read_amounts.ensures ∙ (λ i. amounts_at f (c.split_at-in-loop-piece-2.ensures.front i) 0 (long i))) c.put_piece.result _ c.put_piece.ensures.answer c.put_piece.ensures.leaves q is

pub returns-in_err-put_piece-clause-all : goal.returns-in_err-put_piece-clause-all
returns-in_err-put_piece-clause-all g c o r =
    let q = err_from_is_err_and c.from_residual.result c.from_residual.ensures.1 in
    ap (λ x. record { answer = x; leaves = held_in c.put_piece.new.page c.put_piece.new.tables }) (q.1 ∙ ap Err q.2)
    ∙ next g (goal.at.returns-in_err-put_piece-clause-all g c).After-put_piece o r (Err c.in_err-put_piece.field-0.0) c.in_err-put_piece.was

pub loop-piece-preserved : goal.loop-piece-preserved
loop-piece-preserved g c = (
  record { widths = c.put_piece.ensures.same.widths ∙ c.loop-piece.invariant.0.widths; amounts = c.put_piece.ensures.same.amounts ∙ c.loop-piece.invariant.0.amounts },
  λ o r.
      let s = next g (goal.at.loop-piece-preserved g c).After-put_piece o r (Ok c.in_ok-put_piece.field-0) c.in_ok-put_piece.was in
      moved s (sym c.split_at-in-loop-piece.ensures.back) (sym c.split_at-in-loop-piece-2.ensures.back),
)

pub returns-clause-all : goal.returns-clause-all
returns-clause-all g c o r =
    let e : c.loop-piece.piece ≡ c.args.pieces = omega (arith, c.from.ensures, c.split_at.ensures.front_len) in
    ap (λ k. record { answer = Ok k; leaves = held_in c.loop-piece.page c.loop-piece.tables }) (sym e)
    ∙ all_put (c.loop-piece.invariant.1 o r) (omega (arith, e, c.requires.0.2, same_number c.args.file.now c.requires.0.0 o c.requires.0.1 r))
