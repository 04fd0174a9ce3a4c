-- The text of a layout, written from its end back.
use Rattle.std.proofs.Common.{◌≡◌, ℕ, ◌+◌, ◌-◌, ◌*◌, ◌<◌, ◌≤◌, List, [], ◌∷◌, ◌++◌, length, get_or, take, set, sym, refl, ap, ◌∙◌, subst, arith}
use Rattle.std.proofs.lemmas.List.{length-append, length-set, length-take-le, take_at, take_more, take-take, same_from_push}
use Rattle.fault.specs.Written.{overwrite}
use Rattle.fault.proofs.Overwrite.{overwrite_one, overwrite_before, length-overwrite}
use Rattle.layout.specs.declared.entry.Cut.{Cut}
use Rattle.layout.specs.declared.entry.Kind.TheVariants as kinds
use Rattle.layout.specs.declared.entry.Entry.{Entry}
use Rattle.layout.specs.Layouts.{Layout, cell, cut}
use Rattle.layout.specs.Entries.{cell_entry, entries}
use Rattle.layout.specs.Texts.{opening, closing, plan_text}
use Rattle.layout.specs.Readings.{CellEntry, Ending, Room, WroteOf, Wrote}
use Rattle.layout.proofs.Endings.{kind, piece, setting, entry_count, some_entry}
use Rattle.layout.proofs.Read.{last_cell, last_parts}

pub text_length : (x : Layout) → length (plan_text x) ≡ 2 * length (entries x)
text_length (cell k i) = refl
text_length (cut c x y) = omega (arith, entry_count c x y, text_length x, text_length y, length-append (plan_text x) (plan_text y ++ (closing c ∷ [])), length-append (plan_text y) (closing c ∷ []))

-- the parts of a cut, and where the entries of each end
pub record Parts (es : List Entry) (n : ℕ) (front : List Entry) (x : Layout) (c : Cut) : Type 0 where
  pub left : Layout
  pub right : Layout
  pub is : x ≡ cut c left right
  pub right_ending : Ending (take (n - 1) es) (front ++ entries left) right
  pub left_ending : Ending (take (length (front ++ entries left)) es) front left

module _ (es : List Entry) (n : ℕ) (within : n ≤ length es) (front : List Entry) (x : Layout) (h : Ending (take n es) front x) where
  pub count : length front + length (entries x) ≡ n
  count = omega (arith, ap length h.spelt, length-append front (entries x), length-take-le n es within)

  module _ (d : Entry) where
    last_is : take n es ≡ take (n - 1) es ++ (get_or es (n - 1) d ∷ [])
    last_is =
        let some = some_entry x in
        let m : n ≡ n - 1 + 1 = omega (arith, count) in
        ap (λ k. take k es) m ∙ take_more es (n - 1) d (omega (arith, count))

    -- the last entry is a cell
    pub alone : (get_or es (n - 1) d).kind ≡ kinds.Cell → CellEntry (get_or es (n - 1) d) × (x ≡ cell (get_or es (n - 1) d).piece (get_or es (n - 1) d).setting)
    alone cell_kind = by x h
      where
        e : Entry
        e = get_or es (n - 1) d

        by : (y : Layout) → Ending (take n es) front y → CellEntry (get_or es (n - 1) d) × (y ≡ cell (get_or es (n - 1) d).piece (get_or es (n - 1) d).setting)
        by (cell k i) g =
            let last = (same_from_push front (take (n - 1) es) (cell_entry k i) (get_or es (n - 1) d) (g.spelt ∙ last_is)).1 in
            (last_cell (take n es) (take (n - 1) es) _ last_is front k i g, (λ j. cell (ap piece last j) (ap setting last j)))
        by (cut c y z) g =
            let last = ap kind (last_parts (take n es) (take (n - 1) es) _ last_is front c y z g).1 in
            cc

    -- the last entry is a cut
    pub parts : (c : Cut) → (get_or es (n - 1) d).kind ≡ kinds.Cut c → Parts es n front x c
    parts c cut_kind = by x h
      where
        by : (y : Layout) → Ending (take n es) front y → Parts es n front y c
        by (cell k i) g =
            let last = ap kind (same_from_push front (take (n - 1) es) (cell_entry k i) (get_or es (n - 1) d) (g.spelt ∙ last_is)).1 in
            cc
        by (cut b y z) g =
            let p = last_parts (take n es) (take (n - 1) es) _ last_is front b y z g in
            let last = ap kind p.1 in
            let same : b ≡ c = cc in
            let short : length (front ++ entries y) ≤ n - 1 = omega (arith, ap length p.0, length-append (front ++ entries y) (entries z), length-take-le (n - 1) es (omega arith)) in
            let front_is : front ++ entries y ≡ take (length (front ++ entries y)) es =
            sym (take_at (front ++ entries y) (entries z) _ refl) ∙ ap (take (length (front ++ entries y))) p.0 ∙ take-take _ (n - 1) es short in
            record {
              left = y;
              right = z;
              is = ap (λ k. cut k y z) same;
              right_ending = record { spelt = p.0; lettered = g.lettered.1 };
              left_ending = record { spelt = front_is; lettered = g.lettered.0 };
            }

-- the same where there is room
module _ {es : List Entry} {n place size : ℕ} (room : Room es n place size) where
  pub room_count : length room.front + length (entries room.layout) ≡ n
  room_count = count es n room.within room.front room.layout room.ending

  pub room_cell : (d : Entry) → (get_or es (n - 1) d).kind ≡ kinds.Cell → CellEntry (get_or es (n - 1) d)
  room_cell d is = (alone es n room.within room.front room.layout room.ending d is).0

  pub room_parts : (d : Entry) (c : Cut) → (get_or es (n - 1) d).kind ≡ kinds.Cut c → Parts es n room.front room.layout c
  room_parts = parts es n room.within room.front room.layout room.ending

-- a letter and a digit
pub cell_wrote : (k i end : ℕ) (o : List ℕ) → 1 ≤ end → end < length o → set (set o end (48 + i)) (end - 1) (97 + k) ≡ overwrite (end - 1) (plan_text (cell k i)) o
cell_wrote k i end o some h =
    let m : end ≡ end - 1 + 1 = omega arith in
    overwrite_one (end - 1) (97 + k) (set o end (48 + i)) (omega (arith, length-set o end (48 + i)))
    ∙ ap (overwrite (end - 1) ((97 + k) ∷ [])) (overwrite_one end (48 + i) o h ∙ ap (λ p. overwrite p ((48 + i) ∷ []) o) m)
    ∙ overwrite_before (end - 1) ((97 + k) ∷ []) ((48 + i) ∷ []) o (omega arith)

-- the closing sign, the right part, the left part and the opening sign, each before the last
pub cut_wrote : (c : Cut) (x y : Layout) (o o₁ o₂ : List ℕ) (end middle start : ℕ) → middle + 2 * length (entries y) ≡ end → start + 2 * length (entries x) ≡ middle → 1 ≤ start → end < length o →
    o₁ ≡ overwrite middle (plan_text y) (set o end (closing c)) → o₂ ≡ overwrite start (plan_text x) o₁ →
    set o₂ (start - 1) (opening c) ≡ overwrite (start - 1) (plan_text (cut c x y)) o
cut_wrote c x y o o₁ o₂ end middle start ye xe some h e₁ e₂ =
    let ly = text_length y in
    let lx = text_length x in
    let back : o₁ ≡ overwrite middle (plan_text y ++ (closing c ∷ [])) o =
    (e₁ ∙ ap (overwrite middle (plan_text y)) (overwrite_one end (closing c) o h ∙ (let m : end ≡ middle + length (plan_text y) = omega arith in ap (λ p. overwrite p (closing c ∷ []) o) m))
    ∙ overwrite_before middle (plan_text y) (closing c ∷ []) o (omega arith)) in
    let both : o₂ ≡ overwrite start (plan_text x ++ (plan_text y ++ (closing c ∷ []))) o =
    (e₂ ∙ ap (overwrite start (plan_text x)) (back ∙ (let m : middle ≡ start + length (plan_text x) = omega arith in ap (λ p. overwrite p (plan_text y ++ (closing c ∷ [])) o) m))
    ∙ overwrite_before start (plan_text x) (plan_text y ++ (closing c ∷ [])) o (omega arith)) in
    let m : start ≡ start - 1 + 1 = omega arith in
    let long : length o₂ ≡ length o = ap length both ∙ length-overwrite start _ o (omega (arith, length-append (plan_text x) (plan_text y ++ (closing c ∷ [])), length-append (plan_text y) (closing c ∷ []))) in
    overwrite_one (start - 1) (opening c) o₂ (omega arith)
    ∙ ap (overwrite (start - 1) (opening c ∷ [])) (both ∙ ap (λ p. overwrite p (plan_text x ++ (plan_text y ++ (closing c ∷ []))) o) m)
    ∙ overwrite_before (start - 1) (opening c ∷ []) (plan_text x ++ (plan_text y ++ (closing c ∷ []))) o (omega arith)

-- a cell is done
pub cell_done : (es : List Entry) (n : ℕ) (within : n ≤ length es) (d : Entry) (place : ℕ) (o : List ℕ) → (get_or es (n - 1) d).kind ≡ kinds.Cell → 2 ≤ place → place ≤ length o → (front : List Entry) (x : Layout) → Ending (take n es) front x →
    WroteOf front x o place (set (set o (place - 1) (48 + (get_or es (n - 1) d).setting)) (place - 1 - 1) (97 + (get_or es (n - 1) d).piece)) (n - 1) (place - 1 - 1)
cell_done es n within d place o cell_kind some h front x g =
    let is = (alone es n within front x g d cell_kind).1 in
    let one : length (entries x) ≡ 1 = ap (λ y. length (entries y)) is in
    record {
      entry_is = omega (arith, count es n within front x g);
      start_is = omega arith;
      memory = cell_wrote _ _ (place - 1) o (omega arith) (omega arith) ∙ ap (λ y. overwrite (place - 1 - 1) (plan_text y) o) (sym is);
    }

module _ {es : List Entry} {n place size : ℕ} (room : Room es n place size) {c : Cut} (p : Parts es n room.front room.layout c) where
  size_is : length (entries room.layout) ≡ length (entries p.left) + length (entries p.right) + 1
  size_is = ap (λ y. length (entries y)) p.is ∙ entry_count c p.left p.right

  -- room for the right part
  pub right_room : Room es (n - 1) (place - 1) size
  right_room =
      let k = size_is in
      let within = room.within in
      let fits = room.fits in
      let inside = room.inside in
      record { front = room.front ++ entries p.left; layout = p.right; ending = p.right_ending; within = omega arith; fits = omega arith; inside = omega arith }

  module _ {before after : List ℕ} {entry start : ℕ} (w : Wrote es before (n - 1) (place - 1) after entry start) where
    right_wrote : WroteOf (room.front ++ entries p.left) p.right before (place - 1) after entry start
    right_wrote = w (room.front ++ entries p.left) p.right p.right_ending

    -- and for the left part, before it
    pub left_room : Room es entry start size
    left_room =
        let k = size_is in
        let e = right_wrote.entry_is in
        let s = right_wrote.start_is in
        let within = room.within in
        let fits = room.fits in
        let inside = room.inside in
        let l = length-append room.front (entries p.left) in
        record { front = room.front; layout = p.left; ending = subst (λ m. Ending (take m es) room.front p.left) (sym e) p.left_ending; within = omega (arith, room_count room); fits = omega arith; inside = omega arith }

    pub falls : (entry < n)
    falls =
        let k = size_is in
        let e = right_wrote.entry_is in
        let l = length-append room.front (entries p.left) in
        omega (arith, room_count room)

    -- and for the opening sign
    pub first_place : {after' : List ℕ} {entry' start' : ℕ} → Wrote es after entry start after' entry' start' → (1 ≤ start') × (start' < size)
    first_place w' =
        let k = size_is in
        let s = right_wrote.start_is in
        let s' = (w' room.front p.left (subst (λ m. Ending (take m es) room.front p.left) (sym right_wrote.entry_is) p.left_ending)).start_is in
        let fits = room.fits in
        let inside = room.inside in
        (omega arith, omega (arith, some_entry p.right))

-- a cut is done
pub cut_done : (es : List Entry) (n : ℕ) (c : Cut) (place : ℕ) (o o₁ o₂ : List ℕ) (entry start entry' start' : ℕ) → 1 ≤ start' → 1 ≤ place → place ≤ length o →
    Wrote es (set o (place - 1) (closing c)) (n - 1) (place - 1) o₁ entry start → Wrote es o₁ entry start o₂ entry' start' → (front : List Entry) (x : Layout) → Parts es n front x c →
    WroteOf front x o place (set o₂ (start' - 1) (opening c)) entry' (start' - 1)
cut_done es n c place o o₁ o₂ entry start entry' start' some full h w w' front x p =
    let right = w (front ++ entries p.left) p.right p.right_ending in
    let left = w' front p.left (subst (λ m. Ending (take m es) front p.left) (sym right.entry_is) p.left_ending) in
    let k = ap (λ y. length (entries y)) p.is ∙ entry_count c p.left p.right in
    let s = right.start_is in
    let s' = left.start_is in
    record {
      entry_is = left.entry_is;
      start_is = omega arith;
      memory = cut_wrote c p.left p.right o o₁ o₂ (place - 1) start start' s s' some (omega arith) right.memory left.memory ∙ ap (λ y. overwrite (start' - 1) (plan_text y) o) (sym p.is);
    }
