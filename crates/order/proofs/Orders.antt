-- The figures of an order are a path through the order format, each path is the figures of one order, and an order is told by its figures.
use Rattle.std.proofs.Common.{◌≡◌, ℕ, zero, suc, ◌+◌, ◌≤◌, List, [], ◌∷◌, ◌++◌, map, length, take, drop, sym, refl, ap, ◌∙◌, subst, arith}
use Rattle.std.specs.List.{flat_map, AllByRecursion}
use Rattle.std.proofs.lemmas.List.{length-map, length-append, length-drop, length-take-le, take-append-drop, take_at, append_cancel_left}
use Rattle.order.specs.declared.head.Figures.{Figures}
use Rattle.order.specs.Order.{FiledSetting, Order, Figure, InRange, settings, count_figure, width_figure, pair_figures, figures}
use Rattle.order.specs.declared.reader.Size.{Size}
use Rattle.order.specs.declared.reader.Size.TheVariants.{Byte, Pair}
use Rattle.order.specs.Format.{Format, done, figure, counts, widths, pairs, order_format}
use Rattle.order.specs.Told.{head}
use Rattle.order.proofs.Follows.{due, Follows}
use Rattle.order.proofs.Outcomes.{Open}

abbrev whole : List FiledSetting → List FiledSetting
whole p = p

-- what stands behind the counts, and behind the head
abbrev pub last_part : Figures → ℕ → Format
last_part d n = widths n (pairs n (done d))

abbrev pub behind : Figures → Format
behind d = counts d.pieces 0 (last_part d)

-- ---- every figure of the format has room
counts_open : (n total : ℕ) (next : ℕ → Format) → ((m : ℕ) → Open (next m)) → Open (counts n total next)
counts_open zero total next o = o total
counts_open (suc n) total next o = (omega arith, λ v lo hi. counts_open n (total + v) next o)

widths_open : (n : ℕ) (next : Format) → Open next → Open (widths n next)
widths_open zero next o = o
widths_open (suc n) next o = (omega arith, λ v lo hi. widths_open n next o)

pairs_open : (n : ℕ) (next : Format) → Open next → Open (pairs n next)
pairs_open zero next o = o
pairs_open (suc n) next o = ((omega arith, omega arith), λ v lo hi. ((omega arith, omega arith), λ u l h. pairs_open n next o))

pub order_open : Open order_format
order_open = (
  omega arith,
  λ n _ _. (
    omega arith,
    λ b _ _. (
      omega arith,
      λ g _ _. (
        (omega arith, omega arith),
        λ c _ _.
            counts_open n 0 _ (λ m. widths_open m _ (pairs_open m _ tt)),
      ),
    ),
  ),
)

-- ---- from an order to a path
counts_follow : (ps : List (List FiledSetting)) (total n : ℕ) (next : ℕ → Format) (rest : List Figure) (h : Figures) → total + length (flat_map whole ps) ≡ n → AllByRecursion InRange (map count_figure ps ++ rest) → (AllByRecursion InRange rest → Follows (next n) rest h) → Follows (counts (length ps) total next) (map count_figure ps ++ rest) h
counts_follow [] total n next rest h e a k = let f : n ≡ total = omega arith in subst (λ m. Follows (next m) rest h) f (k a)
counts_follow (p ∷ ps) total n next rest h e a k =
    let f : (total + length p) + length (flat_map whole ps) ≡ n = omega (arith, length-append p (flat_map whole ps)) in
    (refl, a.0.0, a.0.1, counts_follow ps (total + length p) n next rest h f a.1 k)

widths_follow : (ss : List FiledSetting) (next : Format) (rest : List Figure) (h : Figures) → AllByRecursion InRange (map width_figure ss ++ rest) → (AllByRecursion InRange rest → Follows next rest h) → Follows (widths (length ss) next) (map width_figure ss ++ rest) h
widths_follow [] next rest h a k = k a
widths_follow (s ∷ ss) next rest h a k = (refl, a.0.0, a.0.1, widths_follow ss next rest h a.1 k)

pairs_follow : (ss : List FiledSetting) (h : Figures) → AllByRecursion InRange (flat_map pair_figures ss) → Follows (pairs (length ss) (done h)) (flat_map pair_figures ss) h
pairs_follow [] h a = refl
pairs_follow (s ∷ ss) h a = (refl, a.0.0, a.0.1, (refl, a.1.0.0, a.1.0.1, pairs_follow ss h a.1.1))

pub order_follows : (o : Order) → AllByRecursion InRange (figures o) → Follows order_format (figures o) (head o)
order_follows o a =
    let b = a.1 in
    let c = b.1 in
    let d = c.1 in
    let e : 0 + length (settings o) ≡ length (settings o) = omega arith in (
      refl,
      a.0.0,
      a.0.1,
      (
        refl,
        b.0.0,
        b.0.1,
        (
          refl,
          c.0.0,
          c.0.1,
          (
            refl,
            d.0.0,
            d.0.1,
            counts_follow o.pieces 0 (length (settings o)) _ _ (head o) e d.1 (λ r.
                widths_follow (settings o) _ _ (head o) r (pairs_follow (settings o) (head o))),
          ),
        ),
      ),
    )

-- ---- from a path to an order
pub in_range_all : (t : Format) (figs : List Figure) (h : Figures) → Follows t figs h → AllByRecursion InRange figs
in_range_all (done d) [] h f = tt
in_range_all (done d) (g ∷ gs) h f = absurd f
in_range_all (figure size low high next) [] h f = absurd f
in_range_all (figure size low high next) (g ∷ gs) h f =
    let a : g.low ≡ low = ap (λ x. x.low) f.0 in
    let b : g.high ≡ high = ap (λ x. x.high) f.0 in
    let c : low ≤ g.value = f.1 in
    let d : g.value ≤ high = f.2 in
    ((omega arith, omega arith), in_range_all (next g.value) gs h f.3)

abbrev total_of : List ℕ → ℕ
total_of [] = 0
total_of (k ∷ ks) = k + total_of ks

record First (size : Size) (low high : ℕ) (next : ℕ → Format) (figs : List Figure) (h : Figures) : Type 0 where
  value : ℕ
  rest : List Figure
  is : figs ≡ due size low high value ∷ rest
  follows : Follows (next value) rest h

first : (size : Size) (low high : ℕ) (next : ℕ → Format) (figs : List Figure) (h : Figures) → Follows (figure size low high next) figs h → First size low high next figs h
first size low high next [] h f = absurd f
first size low high next (g ∷ gs) h f = record { value = g.value; rest = gs; is = ap (λ x. x ∷ gs) f.0; follows = f.3 }

record Counted (n total : ℕ) (next : ℕ → Format) (figs : List Figure) (h : Figures) : Type 0 where
  ks : List ℕ
  rest : List Figure
  many : length ks ≡ n
  is : figs ≡ map (due Byte 1 8) ks ++ rest
  follows : Follows (next (total + total_of ks)) rest h

counted : (n total : ℕ) (next : ℕ → Format) (figs : List Figure) (h : Figures) → Follows (counts n total next) figs h → Counted n total next figs h
counted zero total next figs h f =
    let e : total ≡ total + 0 = omega arith in
    record { ks = []; rest = figs; many = refl; is = refl; follows = subst (λ m. Follows (next m) figs h) e f }
counted (suc n) total next figs h f =
    let a = first Byte 1 8 (λ k. counts n (total + k) next) figs h f in
    let b = counted n (total + a.value) next a.rest h a.follows in
    let e : (total + a.value) + total_of b.ks ≡ total + (a.value + total_of b.ks) = omega arith in
    record {
      ks = a.value ∷ b.ks;
      rest = b.rest;
      many = ap suc b.many;
      is = a.is ∙ ap (λ l. due Byte 1 8 a.value ∷ l) b.is;
      follows = subst (λ m. Follows (next m) b.rest h) e b.follows;
    }

record Wide (n : ℕ) (next : Format) (figs : List Figure) (h : Figures) : Type 0 where
  ws : List ℕ
  rest : List Figure
  many : length ws ≡ n
  is : figs ≡ map (due Byte 0 255) ws ++ rest
  follows : Follows next rest h

wide : (n : ℕ) (next : Format) (figs : List Figure) (h : Figures) → Follows (widths n next) figs h → Wide n next figs h
wide zero next figs h f = record { ws = []; rest = figs; many = refl; is = refl; follows = f }
wide (suc n) next figs h f =
    let a = first Byte 0 255 (λ _. widths n next) figs h f in
    let b = wide n next a.rest h a.follows in
    record {
      ws = a.value ∷ b.ws;
      rest = b.rest;
      many = ap suc b.many;
      is = a.is ∙ ap (λ l. due Byte 0 255 a.value ∷ l) b.is;
      follows = b.follows;
    }

abbrev width_of : FiledSetting → ℕ
width_of s = s.width

record Paired (ws : List ℕ) (d : Figures) (figs : List Figure) (h : Figures) : Type 0 where
  ss : List FiledSetting
  wide_as : map width_of ss ≡ ws
  is : figs ≡ flat_map pair_figures ss
  ends : d ≡ h

paired : (ws : List ℕ) (d : Figures) (figs : List Figure) (h : Figures) → Follows (pairs (length ws) (done d)) figs h → Paired ws d figs h
paired [] d [] h f = record { ss = []; wide_as = refl; is = refl; ends = f }
paired [] d (g ∷ gs) h f = absurd f
paired (w ∷ ws) d figs h f =
    let a = first Pair 0 1000 (λ _. figure Pair 1 2000 (λ _. pairs (length ws) (done d))) figs h f in
    let b = first Pair 1 2000 (λ _. pairs (length ws) (done d)) a.rest h a.follows in
    let c = paired ws d b.rest h b.follows in
    record {
      ss = record { width = w; marks = a.value; depth = b.value } ∷ c.ss;
      wide_as = ap (λ l. w ∷ l) c.wide_as;
      is = a.is ∙ (ap (λ l. due Pair 0 1000 a.value ∷ l) b.is ∙ ap (λ l. due Pair 0 1000 a.value ∷ (due Pair 1 2000 b.value ∷ l)) c.is);
      ends = c.ends;
    }

-- the settings dealt to the pieces by their counts
record Dealt (ks : List ℕ) (ss : List FiledSetting) : Type 0 where
  ps : List (List FiledSetting)
  long : map (λ (p : List FiledSetting). length p) ps ≡ ks
  all : flat_map whole ps ≡ ss

dealt : (ks : List ℕ) (ss : List FiledSetting) → total_of ks ≡ length ss → Dealt ks ss
dealt [] [] e = record { ps = []; long = refl; all = refl }
dealt [] (s ∷ ss) e = absurd (omega arith)
dealt (k ∷ ks) ss e =
    let d = dealt ks (drop k ss) (omega (arith, length-drop k ss)) in
    let l : length (take k ss) ≡ k = length-take-le k ss (omega arith) in
    record {
      ps = take k ss ∷ d.ps;
      long = ap (λ n. n ∷ map (λ (p : List FiledSetting). length p) d.ps) l ∙ ap (λ t. k ∷ t) d.long;
      all = ap (λ t. take k ss ++ t) d.all ∙ take-append-drop k ss;
    }

counts_map : (ps : List (List FiledSetting)) → map count_figure ps ≡ map (due Byte 1 8) (map (λ (p : List FiledSetting). length p) ps)
counts_map [] = refl
counts_map (p ∷ ps) = ap (λ l. count_figure p ∷ l) (counts_map ps)

widths_map : (ss : List FiledSetting) → map width_figure ss ≡ map (due Byte 0 255) (map width_of ss)
widths_map [] = refl
widths_map (s ∷ ss) = ap (λ l. width_figure s ∷ l) (widths_map ss)

abbrev body_figures : List (List FiledSetting) → List Figure
body_figures ps = map count_figure ps ++ (map width_figure (flat_map whole ps) ++ flat_map pair_figures (flat_map whole ps))

record Bodied (d : Figures) (figs : List Figure) (h : Figures) : Type 0 where
  ps : List (List FiledSetting)
  many : length ps ≡ d.pieces
  is : body_figures ps ≡ figs
  ends : d ≡ h

-- pieces that have these counts, and settings that have these widths
module _ (ks : List ℕ) (ss : List FiledSetting) (ws : List ℕ) (wide_as : map width_of ss ≡ ws) where
  counts_are : (ps : List (List FiledSetting)) → map (λ (p : List FiledSetting). length p) ps ≡ ks → map count_figure ps ≡ map (due Byte 1 8) ks
  counts_are ps long = counts_map ps ∙ ap (map (due Byte 1 8)) long

  widths_are : map width_figure ss ≡ map (due Byte 0 255) ws
  widths_are = widths_map ss ∙ ap (map (due Byte 0 255)) wide_as

  body_is : (ps : List (List FiledSetting)) (figs rest last : List Figure) → map (λ (p : List FiledSetting). length p) ps ≡ ks → flat_map whole ps ≡ ss → figs ≡ map (due Byte 1 8) ks ++ rest → rest ≡ map (due Byte 0 255) ws ++ last → last ≡ flat_map pair_figures ss → body_figures ps ≡ figs
  body_is ps figs rest last long all a b c =
      ap (λ t. map count_figure ps ++ (map width_figure t ++ flat_map pair_figures t)) all
      ∙ (ap (λ t. t ++ (map width_figure ss ++ flat_map pair_figures ss)) (counts_are ps long)
      ∙ (ap (λ t. map (due Byte 1 8) ks ++ (t ++ flat_map pair_figures ss)) widths_are
      ∙ (ap (λ t. map (due Byte 1 8) ks ++ (map (due Byte 0 255) ws ++ t)) (sym c)
      ∙ (ap (λ t. map (due Byte 1 8) ks ++ t) (sym b) ∙ sym a))))

bodied : (d : Figures) (figs : List Figure) (h : Figures) → Follows (behind d) figs h → Bodied d figs h
bodied d figs h f =
    let a = counted d.pieces 0 (last_part d) figs h f in
    let n : ℕ = 0 + total_of a.ks in
    let b = wide n (pairs n (done d)) a.rest h a.follows in
    let c = paired b.ws d b.rest h (subst (λ m. Follows (pairs m (done d)) b.rest h) (sym b.many) b.follows) in
    let l : length c.ss ≡ n = sym (length-map c.ss width_of) ∙ (ap length c.wide_as ∙ b.many) in
    let e = dealt a.ks c.ss (omega arith) in
    record {
      ps = e.ps;
      many = sym (length-map e.ps (λ (p : List FiledSetting). length p)) ∙ (ap length e.long ∙ a.many);
      is = body_is a.ks c.ss b.ws c.wide_as e.ps figs a.rest b.rest e.long e.all a.is b.is c.is;
      ends = c.ends;
    }

pub record Ordered (figs : List Figure) (h : Figures) : Type 0 where
  pub order : Order
  pub is : figures order ≡ figs
  pub ends : head order ≡ h

abbrev head_figures : Figures → List Figure → List Figure
head_figures d rest = due Byte 1 12 d.pieces ∷ (due Byte 1 24 d.breadth ∷ (due Byte 0 200 d.gutter ∷ (due Pair 1 40000 d.ceiling ∷ rest)))

abbrev headed : (pieces breadth gutter ceiling : ℕ) → Figures
headed n b g c = record { pieces = n; breadth = b; gutter = g; ceiling = c }

pub ordered : (figs : List Figure) (h : Figures) → Follows order_format figs h → Ordered figs h
ordered figs h f =
    let a = first Byte 1 12 (λ n. figure Byte 1 24 (λ b. figure Byte 0 200 (λ g. figure Pair 1 40000 (λ c. behind (headed n b g c))))) figs h f in
    let b = first Byte 1 24 (λ b. figure Byte 0 200 (λ g. figure Pair 1 40000 (λ c. behind (headed a.value b g c)))) a.rest h a.follows in
    let g = first Byte 0 200 (λ g. figure Pair 1 40000 (λ c. behind (headed a.value b.value g c))) b.rest h b.follows in
    let c = first Pair 1 40000 (λ c. behind (headed a.value b.value g.value c)) g.rest h g.follows in
    let d : Figures = headed a.value b.value g.value c.value in
    let k = bodied d c.rest h c.follows in
    record {
      order = record { breadth = b.value; gutter = g.value; ceiling = c.value; pieces = k.ps };
      is =
          ap (λ n. head_figures (headed n b.value g.value c.value) (body_figures k.ps)) k.many
          ∙ (ap (head_figures d) k.is
          ∙ (ap (λ t. due Byte 1 12 a.value ∷ (due Byte 1 24 b.value ∷ (due Byte 0 200 g.value ∷ t))) (sym c.is)
          ∙ (ap (λ t. due Byte 1 12 a.value ∷ (due Byte 1 24 b.value ∷ t)) (sym g.is)
          ∙ (ap (λ t. due Byte 1 12 a.value ∷ t) (sym b.is) ∙ sym a.is))));
      ends = ap (λ n. headed n b.value g.value c.value) k.many ∙ k.ends;
    }

-- ---- an order is told by its figures
counts_same : (ps qs : List (List FiledSetting)) (x y : List Figure) → length ps ≡ length qs → map count_figure ps ++ x ≡ map count_figure qs ++ y → (map (λ (p : List FiledSetting). length p) ps ≡ map (λ (p : List FiledSetting). length p) qs) × (x ≡ y)
counts_same [] [] x y l e = (refl, e)
counts_same [] (q ∷ qs) x y l e = absurd (omega arith)
counts_same (p ∷ ps) [] x y l e = absurd (omega arith)
counts_same (p ∷ ps) (q ∷ qs) x y l e =
    let a : count_figure p ≡ count_figure q = cc in
    let b : length p ≡ length q = ap (λ f. f.value) a in
    let r = counts_same ps qs x y (omega arith) (cc) in
    let s = r.0 in
    (cc, r.1)

widths_same : (ss ts : List FiledSetting) (x y : List Figure) → length ss ≡ length ts → map width_figure ss ++ x ≡ map width_figure ts ++ y → (map width_of ss ≡ map width_of ts) × (x ≡ y)
widths_same [] [] x y l e = (refl, e)
widths_same [] (t ∷ ts) x y l e = absurd (omega arith)
widths_same (s ∷ ss) [] x y l e = absurd (omega arith)
widths_same (s ∷ ss) (t ∷ ts) x y l e =
    let a : width_figure s ≡ width_figure t = cc in
    let b : s.width ≡ t.width = ap (λ f. f.value) a in
    let r = widths_same ss ts x y (omega arith) (cc) in
    let k = r.0 in
    (cc, r.1)

pairs_same : (ss ts : List FiledSetting) → map width_of ss ≡ map width_of ts → flat_map pair_figures ss ≡ flat_map pair_figures ts → ss ≡ ts
pairs_same [] [] w e = refl
pairs_same [] (t ∷ ts) w e = let z : ◌≡◌ {A = ℕ} 0 1 = cc in absurd (omega arith)
pairs_same (s ∷ ss) [] w e = let z : ◌≡◌ {A = ℕ} 0 1 = cc in absurd (omega arith)
pairs_same (s ∷ ss) (t ∷ ts) w e =
    let a : s.width ≡ t.width = cc in
    let f : due Pair 0 1000 s.marks ≡ due Pair 0 1000 t.marks = cc in
    let g : due Pair 1 2000 s.depth ≡ due Pair 1 2000 t.depth = cc in
    let b : s.marks ≡ t.marks = ap (λ x. x.value) f in
    let c : s.depth ≡ t.depth = ap (λ x. x.value) g in
    let d : s ≡ t = ap (λ n. record { width = n; marks = s.marks; depth = s.depth }) a
    ∙ (ap (λ n. record { width = t.width; marks = n; depth = s.depth }) b ∙ ap (λ n. record { width = t.width; marks = t.marks; depth = n }) c) in
    let r : ss ≡ ts = pairs_same ss ts (cc) (cc) in
    cc

append_same : {X : Type 0} (p q x y : List X) → length p ≡ length q → p ++ x ≡ q ++ y → (p ≡ q) × (x ≡ y)
append_same p q x y l e =
    let a : p ≡ q = sym (take_at p x (length q) l) ∙ (ap (take (length q)) e ∙ take_at q y (length q) refl) in
    (a, append_cancel_left q x y (ap (λ t. t ++ x) (sym a) ∙ e))

dealt_same : (ps qs : List (List FiledSetting)) → map (λ (p : List FiledSetting). length p) ps ≡ map (λ (p : List FiledSetting). length p) qs → flat_map whole ps ≡ flat_map whole qs → ps ≡ qs
dealt_same [] [] l e = refl
dealt_same [] (q ∷ qs) l e = let z : ◌≡◌ {A = ℕ} 0 1 = cc in absurd (omega arith)
dealt_same (p ∷ ps) [] l e = let z : ◌≡◌ {A = ℕ} 0 1 = cc in absurd (omega arith)
dealt_same (p ∷ ps) (q ∷ qs) l e =
    let r = append_same p q (flat_map whole ps) (flat_map whole qs) (cc) e in
    let a = r.0 in
    let b : ps ≡ qs = dealt_same ps qs (cc) r.1 in
    cc

long_as : (ps : List (List FiledSetting)) → length (flat_map whole ps) ≡ total_of (map (λ (p : List FiledSetting). length p) ps)
long_as [] = refl
long_as (p ∷ ps) = length-append p (flat_map whole ps) ∙ ap (λ n. length p + n) (long_as ps)

pub one_order : (o p : Order) → figures o ≡ figures p → o ≡ p
one_order o p e =
    let a : due Byte 1 12 (length o.pieces) ≡ due Byte 1 12 (length p.pieces) = cc in
    let b : due Byte 1 24 o.breadth ≡ due Byte 1 24 p.breadth = cc in
    let c : due Byte 0 200 o.gutter ≡ due Byte 0 200 p.gutter = cc in
    let d : due Pair 1 40000 o.ceiling ≡ due Pair 1 40000 p.ceiling = cc in
    let r = counts_same o.pieces p.pieces _ _ (ap (λ f. f.value) a) (cc) in
    let l : length (settings o) ≡ length (settings p) = long_as o.pieces ∙ (ap total_of r.0 ∙ sym (long_as p.pieces)) in
    let w = widths_same (settings o) (settings p) _ _ l r.1 in
    let k : o.pieces ≡ p.pieces = dealt_same o.pieces p.pieces r.0 (pairs_same (settings o) (settings p) w.0 w.1) in
    ap (λ x. record { breadth = x; gutter = o.gutter; ceiling = o.ceiling; pieces = o.pieces }) (ap (λ f. f.value) b)
    ∙ (ap (λ x. record { breadth = p.breadth; gutter = x; ceiling = o.ceiling; pieces = o.pieces }) (ap (λ f. f.value) c)
    ∙ (ap (λ x. record { breadth = p.breadth; gutter = p.gutter; ceiling = x; pieces = o.pieces }) (ap (λ f. f.value) d)
    ∙ ap (λ x. record { breadth = p.breadth; gutter = p.gutter; ceiling = p.ceiling; pieces = x }) k))
