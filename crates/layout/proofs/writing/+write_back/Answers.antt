use Rattle.std.proofs.Common.{ℕ, ◌-◌, ◌<◌, ◌≤◌, length, set, sym, ◌∙◌, subst, arith}
use Rattle.std.proofs.lemmas.List.{length-set}
use Rattle.layout.specs.Readings.{Room, WroteOf, Wrote}
use Rattle.layout.proofs.Endings.{some_entry}
use Rattle.layout.proofs.Back.{room_count, room_cell, Parts, parts, room_parts, cell_done, right_room, left_room, falls, first_place, cut_done}
use Rattle.layout.proofs.writing.+write_back.Goals as goal
use Rattle.layout.proofs.writing.+write_back.Goals.{In-Cell, In-Cut, After-write_back-left, After-write_back-start}

pub overflow_sub-last : goal.overflow_sub-last
overflow_sub-last t c = omega (arith, room_count c.requires, some_entry c.requires.layout)

pub bounds-entries-last : goal.bounds-entries-last
bounds-entries-last t c = omega (arith, room_count c.requires, some_entry c.requires.layout)

pub overflow_add-out : goal.overflow_add-out
overflow_add-out t c = let a = (room_cell c.requires _ c.in-Cell.is).setting in omega arith

pub overflow_add-out-in-Cell : goal.overflow_add-out-in-Cell
overflow_add-out-in-Cell t c = let a = (room_cell c.requires _ c.in-Cell.is).piece in omega arith

pub bounds-out-place : goal.bounds-out-place
bounds-out-place t c = simp length-set (omega (arith, some_entry c.requires.layout))

pub returns-in-Cell : goal.returns-in-Cell
returns-in-Cell t c = cell_done c.args.entries.now c.args.cursor.entry c.requires.within _ c.args.cursor.place c.args.out.now c.in-Cell.is (omega (arith, some_entry c.requires.layout)) c.requires.inside

split : (t : ℕ) (c : In-Cut t) → Parts c.args.entries.now c.args.cursor.entry c.requires.front c.requires.layout c.in-Cut.cut
split t c = room_parts c.requires _ c.in-Cut.cut c.in-Cut.is

pub write_back-left-requires : goal.write_back-left-requires
write_back-left-requires t c =
    let out = c.args.out.now in
    let place = c.args.cursor.place in (
      omega (arith, c.decreases, room_count c.requires, some_entry c.requires.layout),
      subst (Room c.args.entries.now (c.args.cursor.entry - 1) (place - 1)) (sym (length-set out (place - 1) c.closing.result))
          (right_room c.requires (split t (goal.at.write_back-left-requires t c).In-Cut)),
    )

pub write_back-start-requires : goal.write_back-start-requires
write_back-start-requires t c =
    let es = c.args.entries.now in
    let n = c.args.cursor.entry in
    let out = c.args.out.now in
    let place = c.args.cursor.place in
    let p = split t (goal.at.write_back-start-requires t c).In-Cut in
    let left = c.write_back-left.result in (
      omega (arith, c.decreases, falls c.requires p c.write_back-left.ensures),
      subst (Room es left.entry left.place) (sym (c.write_back-left.auto.out ∙ length-set out (place - 1) c.closing.result))
          (left_room c.requires p c.write_back-left.ensures),
    )

-- the opening sign has a place
opened : (t : ℕ) (c : After-write_back-start t) → Parts c.args.entries.now c.args.cursor.entry c.requires.front c.requires.layout c.in-Cut.cut → (1 ≤ c.write_back-start.result.place) × (c.write_back-start.result.place < length c.args.out.now)
opened t c p = first_place c.requires p c.write_back-left.ensures c.write_back-start.ensures

pub overflow_sub-place-in-Cut : goal.overflow_sub-place-in-Cut
overflow_sub-place-in-Cut t c = let at = goal.at.overflow_sub-place-in-Cut t c in (opened t at.After-write_back-start (split t at.In-Cut)).0

pub bounds-out-place-in-Cut : goal.bounds-out-place-in-Cut
bounds-out-place-in-Cut t c =
    let at = goal.at.bounds-out-place-in-Cut t c in
    omega (arith, opened t at.After-write_back-start (split t at.In-Cut), c.write_back-start.auto.out, c.write_back-left.auto.out, length-set c.args.out.now (c.args.cursor.place - 1) c.closing.result)

pub returns-in-Cut : goal.returns-in-Cut
returns-in-Cut t c front x h =
    let at = goal.at.returns-in-Cut t c in
    let es = c.args.entries.now in
    let n = c.args.cursor.entry in
    let out = c.args.out.now in
    let place = c.args.cursor.place in
    let left = c.write_back-left.result in
    let start = c.write_back-start.result in
    let closed = subst (λ b. Wrote es (set out (place - 1) b) (n - 1) (place - 1) c.write_back-left.new.out left.entry left.place) c.closing.ensures c.write_back-left.ensures in
    subst (λ b. WroteOf front x out place (set c.write_back-start.new.out (start.place - 1) b) start.entry (start.place - 1)) (sym c.opening.ensures)
    (cut_done es n c.in-Cut.cut place out _ _ left.entry left.place start.entry start.place (opened t at.After-write_back-start (split t at.In-Cut)).0 (omega (arith, some_entry c.requires.layout)) c.requires.inside
    closed c.write_back-start.ensures front x (parts es n c.requires.within front x h _ c.in-Cut.cut c.in-Cut.is))
