-- What stands in the file of an order, piece by piece, and how a fill goes through it.
use Rattle.std.proofs.Common.{◌≡◌, ℕ, suc, ◌+◌, ◌-◌, ◌*◌, ◌/◌, ◌%◌, ◌<◌, ◌≤◌, List, [], ◌∷◌, ◌++◌, map, length, get_or, take, drop, set, Ok, Err, Result, sym, refl, ap, ◌∙◌, subst, arith}
use Rattle.std.specs.List.{flat_map, AllByRecursion}
use Rattle.std.proofs.lemmas.List.{append_assoc, append-nil, take_more_set, take_at, drop_at, drop-drop, get_or-drop, get_or-take, take_all, length-append, length-map, length-drop, map-append}
use Rattle.std.proofs.lemmas.Grind.{flat_map-append}
use Rattle.fault.specs.declared.refusal.Fault.{Fault}
use Rattle.std.proofs.lemmas.Bool.{le-leb, lt-leb}
use Rattle.fault.specs.declared.refusal.Refusal.TheVariants.{Memory}
use Rattle.fault.specs.Faults.{fault, of_piece}
use Rattle.measure.specs.Measures.{Functions}
use Rattle.measure.specs.Filing.{Filing}
use Rattle.page.specs.Pieces.{Held}
use Rattle.page.specs.Puts.{putting, put_leaves, with_piece}
use Rattle.order.specs.Order.{FiledSetting, Order, InRange, spelt, settings, count_figure, width_figure, pair_figures, Reads}
use Rattle.order.specs.declared.reader.Size.TheVariants.{Pair}
use Rattle.order.specs.declared.head.Figures.{Figures}
use Rattle.order.specs.Format.{number_at}
use Rattle.order.specs.Told.{head, Told, Settled}
use Rattle.order.specs.Fills.{widths_of, amounts_of, go_on, filling, amounts_at, said_of, Spells, AllPut, Filled}

-- one more amount made: those made so far, and those still to come, are all
pub amount_made : {A : Type 0} (f : Filing A) (pairs : List ℕ) (i count : ℕ) (amounts : List A) (v : A) → i < count → i < length amounts → v ≡ f.amount (number_at Pair pairs (4 * i)) (number_at Pair pairs (4 * i + 2)) → take i amounts ++ amounts_at f pairs (4 * i) (count - i) ≡ amounts_at f pairs 0 count → take (i + 1) (set amounts i v) ++ amounts_at f pairs (4 * (i + 1)) (count - (i + 1)) ≡ amounts_at f pairs 0 count
amount_made f pairs i count amounts v h fits e inv =
    let n : count - i ≡ suc (count - (i + 1)) = omega arith in
    let p : 4 * (i + 1) ≡ 4 * i + 4 = omega arith in
    ap (λ l. l ++ amounts_at f pairs (4 * (i + 1)) (count - (i + 1))) (take_more_set amounts i v fits)
    ∙ append_assoc (take i amounts) (v ∷ []) (amounts_at f pairs (4 * (i + 1)) (count - (i + 1)))
    ∙ (λ j. take i amounts ++ (e j ∷ amounts_at f pairs (p j) (count - (i + 1))))
    ∙ ap (λ k. take i amounts ++ amounts_at f pairs (4 * i) k) (sym n)
    ∙ inv

-- a number in the pair that is cut off the front of what is left is that in all pairs
pub number_here : (pairs rest front : List ℕ) (i j k : ℕ) → rest ≡ drop (4 * i) pairs → front ≡ take 4 rest → j < 3 → k ≡ 4 * i + j → number_at Pair front j ≡ number_at Pair pairs k
number_here pairs rest front i j k e h small place =
    let at : (n : ℕ) → n < 4 → get_or front n 0 ≡ get_or pairs (4 * i + n) 0 =
    λ n less. ap (λ l. get_or l n 0) h ∙ (get_or-take 4 rest n 0 less ∙ (ap (λ l. get_or l n 0) e ∙ get_or-drop (4 * i) pairs n 0)) in
    let next : 4 * i + (j + 1) ≡ k + 1 = omega arith in
    omega (arith, at j (omega arith) ∙ ap (λ n. get_or pairs n 0) (sym place), at (j + 1) (omega arith) ∙ ap (λ n. get_or pairs n 0) next)

-- all amounts are made
pub all_made : {A : Type 0} (f : Filing A) (pairs : List ℕ) (i count : ℕ) (amounts : List A) → length amounts ≡ count → count ≤ i → take i amounts ++ amounts_at f pairs (4 * i) (count - i) ≡ amounts_at f pairs 0 count → amounts ≡ amounts_at f pairs 0 count
all_made f pairs i count amounts long h inv =
    let none : count - i ≡ 0 = omega arith in
    sym (take_all i amounts (omega arith)) ∙ sym (append-nil (take i amounts)) ∙ ap (λ k. take i amounts ++ amounts_at f pairs (4 * i) k) (sym none) ∙ inv

-- the filed pairs of settings, as bytes
abbrev pub pair_bytes : List FiledSetting → List ℕ
pair_bytes ss = flat_map spelt (flat_map pair_figures ss)

abbrev pub flat : List (List FiledSetting) → List FiledSetting
flat ps = flat_map (λ (p : List FiledSetting). p) ps

pair_bytes-append : (ss ts : List FiledSetting) → pair_bytes (ss ++ ts) ≡ pair_bytes ss ++ pair_bytes ts
pair_bytes-append ss ts = ap (flat_map spelt) (flat_map-append pair_figures ss ts) ∙ flat_map-append spelt (flat_map pair_figures ss) (flat_map pair_figures ts)

length_pairs : (ss : List FiledSetting) → length (pair_bytes ss) ≡ 4 * length ss
length_pairs [] = refl
length_pairs (s ∷ ss) = omega (arith, length_pairs ss)

count_bytes : (ps : List (List FiledSetting)) → flat_map spelt (map count_figure ps) ≡ map (λ (p : List FiledSetting). length p) ps
count_bytes [] = refl
count_bytes (p ∷ ps) = ap (λ l. length p ∷ l) (count_bytes ps)

width_bytes : (ss : List FiledSetting) → flat_map spelt (map width_figure ss) ≡ widths_of ss
width_bytes [] = refl
width_bytes (s ∷ ss) = ap (λ l. s.width ∷ l) (width_bytes ss)

-- the amounts of filed pairs that stand at a place
pub amounts_read : {A : Type 0} (f : Filing A) (file tail : List ℕ) (from : ℕ) (ss : List FiledSetting) → drop from file ≡ pair_bytes ss ++ tail → amounts_at f file from (length ss) ≡ amounts_of f ss
amounts_read f file tail from [] e = refl
amounts_read f file tail from (s ∷ ss) e =
    let at : (i : ℕ) → get_or file (from + i) 0 ≡ get_or (pair_bytes (s ∷ ss) ++ tail) i 0 = λ i. sym (get_or-drop from file i 0) ∙ ap (λ l. get_or l i 0) e in
    let zeroth : get_or file from 0 ≡ s.marks % 256 = (let z : from ≡ from + 0 = omega arith in ap (λ n. get_or file n 0) z ∙ at 0) in
    let third : get_or file (from + 2 + 1) 0 ≡ s.depth / 256 = (let z : from + 2 + 1 ≡ from + 3 = omega arith in ap (λ n. get_or file n 0) z ∙ at 3) in
    let marks : number_at Pair file from ≡ s.marks = omega (arith, zeroth, at 1) in
    let depth : number_at Pair file (from + 2) ≡ s.depth = omega (arith, third, at 2) in
    let rest : drop (from + 4) file ≡ pair_bytes ss ++ tail = sym (drop-drop 4 from file) ∙ ap (drop 4) e in
    (λ i. f.amount (marks i) (depth i) ∷ amounts_read f file tail (from + 4) ss rest i)

-- a fill that has put k pieces: what is left to put, and its numbers of settings, widths and pairs
pub record Stage {A : Type 0} (m : Functions A) (f : Filing A) (o : Order) (start h : Held A) (k : ℕ) (counts widths pairs : List ℕ) : Type 0 where
  pub left : List (List FiledSetting)
  pub fills : filling m f 0 o.pieces start ≡ filling m f k left h
  pub number : k + length left ≡ length o.pieces
  pub small : AllByRecursion (λ (p : List FiledSetting). (1 ≤ length p) × (length p ≤ 8)) left
  pub counted : drop k counts ≡ map (λ (p : List FiledSetting). length p) left
  pub wide : widths ≡ widths_of (flat left)
  pub deep : pairs ≡ pair_bytes (flat left)

-- the next piece to put
pub record Turn {A : Type 0} (m : Functions A) (f : Filing A) (o : Order) (start h : Held A) (k : ℕ) (counts widths pairs : List ℕ) : Type 0 where
  pub piece : List FiledSetting
  pub rest : List (List FiledSetting)
  pub fills : filling m f 0 o.pieces start ≡ filling m f k (piece ∷ rest) h
  pub few : length piece ≤ 8
  pub count : get_or counts k 0 ≡ length piece
  pub widths_in : length piece ≤ length widths
  pub wide : take (length piece) widths ≡ widths_of piece
  pub pairs_in : 4 * length piece ≤ length pairs
  pub deep : take (4 * length piece) pairs ≡ pair_bytes piece
  pub then : (h' : Held A) → filling m f k (piece ∷ rest) h ≡ filling m f (k + 1) rest h' → Stage m f o start h' (k + 1) counts (drop (length piece) widths) (drop (4 * length piece) pairs)

module _ {A : Type 0} {m : Functions A} {f : Filing A} {o : Order} {start h : Held A} {k : ℕ} {counts widths pairs : List ℕ} where
  turn_of : (left : List (List FiledSetting)) → filling m f 0 o.pieces start ≡ filling m f k left h → k + length left ≡ length o.pieces → k < length o.pieces →
      AllByRecursion (λ (p : List FiledSetting). (1 ≤ length p) × (length p ≤ 8)) left → drop k counts ≡ map (λ (p : List FiledSetting). length p) left → widths ≡ widths_of (flat left) → pairs ≡ pair_bytes (flat left) →
      Turn m f o start h k counts widths pairs
  turn_of [] fs number more small ce we pe = absurd (omega arith)
  turn_of (p ∷ rest) fs number more small ce we pe =
      let wide : widths ≡ widths_of p ++ widths_of (flat rest) = we ∙ map-append (λ (s : FiledSetting). s.width) p (flat rest) in
      let deep : pairs ≡ pair_bytes p ++ pair_bytes (flat rest) = pe ∙ pair_bytes-append p (flat rest) in
      let wl : length (widths_of p) ≡ length p = length-map p (λ (s : FiledSetting). s.width) in
      let pl = length_pairs p in
      record {
        piece = p;
        rest = rest;
        fills = fs;
        few = small.0.1;
        count = (let z : k ≡ k + 0 = omega arith in ap (λ n. get_or counts n 0) z ∙ sym (get_or-drop k counts 0 0) ∙ ap (λ l. get_or l 0 0) ce);
        widths_in = omega (arith, ap length wide, length-append (widths_of p) (widths_of (flat rest)), wl);
        wide = ap (take (length p)) wide ∙ take_at (widths_of p) (widths_of (flat rest)) (length p) wl;
        pairs_in = omega (arith, ap length deep, length-append (pair_bytes p) (pair_bytes (flat rest)), pl);
        deep = ap (take (4 * length p)) deep ∙ take_at (pair_bytes p) (pair_bytes (flat rest)) (4 * length p) pl;
        then = λ h' e. record {
          left = rest;
          fills = fs ∙ e;
          number = omega arith;
          small = small.1;
          counted = sym (drop-drop 1 k counts) ∙ ap (drop 1) ce;
          wide = ap (drop (length p)) wide ∙ drop_at (widths_of p) (widths_of (flat rest)) (length p) wl;
          deep = ap (drop (4 * length p)) deep ∙ drop_at (pair_bytes p) (pair_bytes (flat rest)) (4 * length p) pl;
        };
      }

  pub turn : Stage m f o start h k counts widths pairs → k < length o.pieces → Turn m f o start h k counts widths pairs
  turn s more = turn_of s.left s.fills s.number more s.small s.counted s.wide s.deep

  -- the same stage, where what is left has other names
  pub moved : {ws ps : List ℕ} → Stage m f o start h k counts widths pairs → widths ≡ ws → pairs ≡ ps → Stage m f o start h k counts ws ps
  moved s we pe = record { left = s.left; fills = s.fills; number = s.number; small = s.small; counted = s.counted; wide = sym we ∙ s.wide; deep = sym pe ∙ s.deep }

  -- all pieces are put
  pub all_put : Stage m f o start h k counts widths pairs → k ≡ length o.pieces → record { answer = Ok k; leaves = h } ≡ filling m f 0 o.pieces start
  all_put s e = none s.left s.fills (omega (arith, s.number))
    where
      none : (left : List (List FiledSetting)) → filling m f 0 o.pieces start ≡ filling m f k left h → length left ≡ 0 → record { answer = Ok k; leaves = h } ≡ filling m f 0 o.pieces start
      none [] fs z = sym fs
      none (p ∷ ps) fs z = absurd (omega arith)

all_front : {X : Type 0} (P : X → Type 0) (xs ys : List X) → AllByRecursion P (xs ++ ys) → AllByRecursion P xs
all_front P [] ys h = tt
all_front P (x ∷ xs) ys h = (h.0, all_front P xs ys h.1)

counts_in_range : (ps : List (List FiledSetting)) → AllByRecursion InRange (map count_figure ps) → AllByRecursion (λ (p : List FiledSetting). (1 ≤ length p) × (length p ≤ 8)) ps
counts_in_range [] h = tt
counts_in_range (p ∷ ps) h = (h.0, counts_in_range ps h.1)

-- the parts of a good file: the numbers of settings behind the head, then the widths, then the pairs
pub record Parts (body : List ℕ) (o : Order) (n : ℕ) : Type 0 where
  pub some : n ≤ length body
  pub counts : take n body ≡ map (λ (p : List FiledSetting). length p) o.pieces
  pub split : length (drop n body) / 5 ≤ length (drop n body)
  pub wide : take (length (drop n body) / 5) (drop n body) ≡ widths_of (settings o)
  pub deep : drop (length (drop n body) / 5) (drop n body) ≡ pair_bytes (settings o)

-- the figures behind the head, as bytes
split_body : (o : Order) → flat_map spelt (map count_figure o.pieces ++ (map width_figure (settings o) ++ flat_map pair_figures (settings o))) ≡ map (λ (p : List FiledSetting). length p) o.pieces ++ (widths_of (settings o) ++ pair_bytes (settings o))
split_body o =
    let ps = o.pieces in
    let ss = settings o in
    flat_map-append spelt (map count_figure ps) (map width_figure ss ++ flat_map pair_figures ss)
    ∙ (λ i. count_bytes ps i ++ flat_map-append spelt (map width_figure ss) (flat_map pair_figures ss) i)
    ∙ ap (λ l. map (λ (p : List FiledSetting). length p) ps ++ (l ++ pair_bytes ss)) (width_bytes ss)

-- a good file has 5 + n + 5t bytes, where its order has n pieces and t settings in all
pub file_length : (file : List ℕ) (o : Order) → Reads file o → length file ≡ 5 + length o.pieces + 5 * length (settings o)
file_length file o r =
    let ps = o.pieces in
    let ss = settings o in
    let cs = map (λ (p : List FiledSetting). length p) ps in
    let body = map count_figure ps ++ (map width_figure ss ++ flat_map pair_figures ss) in
    let cl : length cs ≡ length ps = length-map ps (λ (p : List FiledSetting). length p) in
    let wl : length (widths_of ss) ≡ length ss = length-map ss (λ (s : FiledSetting). s.width) in
    let long : length file ≡ 5 + length (flat_map spelt body) = ap length (sym r.spells) ∙ omega arith in
    omega (arith, long, ap length (split_body o), length-append cs (widths_of ss ++ pair_bytes ss), length-append (widths_of ss) (pair_bytes ss), cl, wl, length_pairs ss)

pub parts : (file : List ℕ) (o : Order) (n : ℕ) → Reads file o → length o.pieces ≡ n → Parts (drop 5 file) o n
parts file o n r e =
    let ps = o.pieces in
    let ss = settings o in
    let cs = map (λ (p : List FiledSetting). length p) ps in
    let cl : length cs ≡ n = length-map ps (λ (p : List FiledSetting). length p) ∙ e in
    let wl : length (widths_of ss) ≡ length ss = length-map ss (λ (s : FiledSetting). s.width) in
    let tail : drop 5 file ≡ cs ++ (widths_of ss ++ pair_bytes ss) = ap (drop 5) (sym r.spells) ∙ split_body o in
    let rest : drop n (drop 5 file) ≡ widths_of ss ++ pair_bytes ss = ap (drop n) tail ∙ drop_at cs (widths_of ss ++ pair_bytes ss) n cl in
    let long : length (drop n (drop 5 file)) ≡ 5 * length ss = omega (arith, file_length file o r, length-drop 5 file, length-drop n (drop 5 file), e) in
    let fifth : length (widths_of ss) ≡ length (drop n (drop 5 file)) / 5 = omega (arith, long, wl) in
    record {
      some = omega (arith, ap length tail, length-append cs (widths_of ss ++ pair_bytes ss), cl);
      counts = ap (take n) tail ∙ take_at cs (widths_of ss ++ pair_bytes ss) n cl;
      split = omega arith;
      wide = ap (take (length (drop n (drop 5 file)) / 5)) rest ∙ take_at (widths_of ss) (pair_bytes ss) (length (drop n (drop 5 file)) / 5) fifth;
      deep = ap (drop (length (drop n (drop 5 file)) / 5)) rest ∙ drop_at (widths_of ss) (pair_bytes ss) (length (drop n (drop 5 file)) / 5) fifth;
    }

-- what stands behind the head
pub behind_head : (file : List ℕ) → take (length file - 5) (drop 5 file) ≡ drop 5 file
behind_head file = take_all (length file - 5) (drop 5 file) (omega (arith, length-drop 5 file))

-- before the first piece
pub begun : {A : Type 0} (m : Functions A) (f : Filing A) (file : List ℕ) (o : Order) (h : Held A) (n : ℕ) → Reads file o → length o.pieces ≡ n → (counts rest widths pairs : List ℕ) → counts ≡ take n (drop 5 file) → rest ≡ drop n (drop 5 file) → widths ≡ take (length rest / 5) rest → pairs ≡ drop (length rest / 5) rest → Stage m f o h h 0 counts widths pairs
begun m f file o h n r e counts rest widths pairs ce re we pe =
    let p = parts file o n r e in
    record {
      left = o.pieces;
      fills = refl;
      number = omega arith;
      small = counts_in_range o.pieces (all_front InRange (map count_figure o.pieces) (map width_figure (settings o) ++ flat_map pair_figures (settings o)) r.good.1.1.1.1);
      counted = ce ∙ p.counts;
      wide = we ∙ ap (λ l. take (length l / 5) l) re ∙ p.wide;
      deep = pe ∙ ap (λ l. drop (length l / 5) l) re ∙ p.deep;
    }

-- the first byte of a good file is the number of pieces
first_byte : (file : List ℕ) (o : Order) → Reads file o → get_or file 0 0 ≡ length o.pieces
first_byte file o r = ap (λ l. get_or l 0 0) (sym r.spells)

pub same_number : (file : List ℕ) (o p : Order) → Reads file o → Reads file p → length o.pieces ≡ length p.pieces
same_number file o p r s = sym (first_byte file o r) ∙ first_byte file p s

module _ {A : Type 0} (m : Functions A) (f : Filing A) (k : ℕ) (p : List FiledSetting) (rest : List (List FiledSetting)) (h : Held A) where
  -- what a put of the next piece makes of the fill
  abbrev pub Stepped : Result ℕ Fault → Held A → Type 0
  Stepped (Ok n) h' = filling m f k (p ∷ rest) h ≡ filling m f (k + 1) rest h'
  Stepped (Err e) h' = record { answer = Err e; leaves = h' } ≡ filling m f k (p ∷ rest) h

  pub stepped : (r : Result ℕ Fault) (h' : Held A) → r ≡ said_of k (putting m h (widths_of p) (amounts_of f p)) → h' ≡ put_leaves r h (widths_of p) (amounts_of f p) → Stepped r h'
  stepped r h' = by (putting m h (widths_of p) (amounts_of f p)) refl
    where
      by : (q : Result ℕ Fault) → putting m h (widths_of p) (amounts_of f p) ≡ q → r ≡ said_of k q → h' ≡ put_leaves r h (widths_of p) (amounts_of f p) → Stepped r h'
      by (Ok n) e a l =
          let l' : h' ≡ with_piece h (widths_of p) (amounts_of f p) = l ∙ ap (λ q. put_leaves q h (widths_of p) (amounts_of f p)) a in
          subst (λ q. Stepped q h') (sym a) (ap (λ q. go_on q k h (filling m f (k + 1) rest (with_piece h (widths_of p) (amounts_of f p)))) e ∙ ap (λ g. filling m f (k + 1) rest g) (sym l'))
      by (Err x) e a l =
          let l' : h' ≡ h = l ∙ ap (λ q. put_leaves q h (widths_of p) (amounts_of f p)) a in
          subst (λ q. Stepped q h') (sym a) (ap (λ (g : Held A). record { answer = Err (of_piece k x); leaves = g }) l' ∙ ap (λ q. go_on q k h (filling m f (k + 1) rest (with_piece h (widths_of p) (amounts_of f p)))) (sym e))

-- what a put of the next piece, of so many settings, makes of a stage: the next one, or the end of the fill
abbrev pub Next : {A : Type 0} → Functions A → Filing A → Order → Held A → Held A → (k count : ℕ) → (counts widths pairs : List ℕ) → Result ℕ Fault → Type 0
Next m f o start h k count counts widths pairs (Ok n) = Stage m f o start h (k + 1) counts (drop count widths) (drop (4 * count) pairs)
Next m f o start h k count counts widths pairs (Err e) = record { answer = Err e; leaves = h } ≡ filling m f 0 o.pieces start

-- the next piece has at most 8 settings, and they are there
pub record Lies (count : ℕ) (widths pairs : List ℕ) : Type 0 where
  pub few : count ≤ 8
  pub wide : count ≤ length widths
  pub deep : 4 * count ≤ length pairs

module _ {A : Type 0} {m : Functions A} {f : Filing A} {o : Order} {start h : Held A} {k : ℕ} {counts widths pairs : List ℕ} (s : Stage m f o start h k counts widths pairs) (more : k < length o.pieces) (count : ℕ) (e : count ≡ get_or counts k 0) where
  pub next_lies : Lies count widths pairs
  next_lies =
      let t = turn s more in
      let n : count ≡ length t.piece = e ∙ t.count in
      record { few = omega (arith, n, t.few); wide = omega (arith, n, t.widths_in); deep = omega (arith, n, t.pairs_in) }

  -- the piece's widths stand first among those left, and so do its pairs
  pub next_put : (ws : List ℕ) (xs : List A) → ws ≡ take count widths → xs ≡ amounts_at f (take (4 * count) pairs) 0 count → (r : Result ℕ Fault) (h' : Held A) → r ≡ said_of k (putting m h ws xs) → h' ≡ put_leaves r h ws xs → (q : Result ℕ Fault) → r ≡ q →
      Next m f o start h' k count counts widths pairs q
  next_put ws xs we xe r h' answer leaves q is =
      subst (Next m f o start h' k count counts widths pairs) is (by r (stepped m f k p t.rest h r h' (answer ∙ (λ i. said_of k (putting m h (we' i) (xe' i)))) (leaves ∙ (λ i. put_leaves r h (we' i) (xe' i)))))
    where
      t : Turn m f o start h k counts widths pairs
      t = turn s more

      p : List FiledSetting
      p = t.piece

      n : count ≡ length p
      n = e ∙ t.count

      we' : ws ≡ widths_of p
      we' = we ∙ ap (λ j. take j widths) n ∙ t.wide

      xe' : xs ≡ amounts_of f p
      xe' = xe ∙ (λ i. amounts_at f (take (4 * n i) pairs) 0 (n i)) ∙ amounts_read f (take (4 * length p) pairs) [] 0 p (t.deep ∙ sym (append-nil (pair_bytes p)))

      by : (q : Result ℕ Fault) → Stepped m f k p t.rest h q h' → Next m f o start h' k count counts widths pairs q
      by (Ok j) step = subst (λ c. Stage m f o start h' (k + 1) counts (drop c widths) (drop (4 * c) pairs)) (sym n) (t.then h' step)
      by (Err x) step = step ∙ sym t.fills

-- two outcomes of a check are one
unlike : {X E : Type 0} {x : X} {e : E} → ◌≡◌ {A = Result X E} (Ok x) (Err e) → ⊥
unlike h = let z : ◌≡◌ {A = ℕ} 0 1 = cc in omega arith

module _ (file : List ℕ) (r : Result Figures Fault) (settled : Settled file r) where
  pub spells : (x : Figures) → r ≡ Ok x → Spells file x.pieces
  spells x e = let t : Told file (Ok x) = subst (Told file) e settled.told in (t.0, t.1, sym (ap (λ (h : Figures). h.pieces) t.2))

  module _ {A : Type 0} (m : Functions A) (f : Filing A) (scratch : ℕ) (h : Held A) where
    pub fill_refused : (x : Fault) (s : Result ℕ Fault) → r ≡ Err x → s ≡ Err x → Filled m f file scratch h h s
    fill_refused x s e a = record {
      refused = λ y t. (let same = settled.alone (Err y) t in cc, refl);
      put = λ o reads. let same = settled.alone (Ok (head o)) (o, reads, refl) in absurd (unlike (same ∙ e));
    }

    pub fill_short : (x : Figures) (s : Result ℕ Fault) → r ≡ Ok x → scratch < 8 → s ≡ Err (fault Memory) → Filled m f file scratch h h s
    fill_short x s e small is = record {
      refused = λ z t. absurd (unlike (sym e ∙ sym (settled.alone (Err z) t)));
      put = λ o reads. let b = lt-leb 8 scratch small in rw b (ap (λ (a : Result ℕ Fault). record { answer = a; leaves = h }) is);
    }

    pub fill_put : (x : Figures) (k : Held A) (s : Result ℕ Fault) → r ≡ Ok x → 8 ≤ scratch → AllPut m f file h k s → Filled m f file scratch h k s
    fill_put x k s e large all = record {
      refused = λ z t. absurd (unlike (sym e ∙ sym (settled.alone (Err z) t)));
      put = λ o reads. let b = le-leb 8 scratch large in rw b (all o reads);
    }
