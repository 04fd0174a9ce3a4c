-- What a run over the order format answers is settled, and a file has at most one reading.
use Rattle.std.proofs.Common.{◌≡◌, ℕ, ◌≤◌, List, [], ◌∷◌, ◌++◌, length, get_or, Ok, Err, Result, sym, ap, ◌∙◌, subst, inl, inr, arith, w8, Fits}
use Rattle.std.specs.List.{flat_map, AllByRecursion}
use Rattle.fault.specs.declared.refusal.Fault.{Fault}
use Rattle.order.specs.declared.head.Figures.{Figures}
use Rattle.order.specs.Order.{Order, Figure, InRange, figures, spelt, Reads}
use Rattle.order.specs.Format.{order_format, run}
use Rattle.order.specs.Told.{head, OutOfRange, Told, Settled, OneReading}
use Rattle.order.proofs.Follows.{Follows, Spells, Misfit, Tells}
use Rattle.order.proofs.Outcomes.{told, alone, one_path}
use Rattle.order.proofs.Orders.{order_open, order_follows, in_range_all, ordered, one_order}

-- an order's bytes are what a path spells, and back
spells : (w : List ℕ) (o : Order) → Reads w o → Spells order_format [] w (head o)
spells w o r = record { path = figures o; follows = order_follows o r.good; reads = r.spells }

record Read (w : List ℕ) (h : Figures) : Type 0 where
  order : Order
  reads : Reads w order
  ends : head order ≡ h

good : (o : Order) (figs : List Figure) (h : Figures) → figures o ≡ figs → Follows order_format figs h → AllByRecursion InRange (figures o)
good o figs h e f = in_range_all order_format (figures o) h (subst (λ l. Follows order_format l h) (sym e) f)

read : (w : List ℕ) (h : Figures) → Spells order_format [] w h → Read w h
read w h s =
    let o = ordered s.path h s.follows in
    record { order = o.order; reads = record { good = good o.order s.path h o.is s.follows; spells = ap (flat_map spelt) o.is ∙ s.reads }; ends = o.ends }

-- ---- from what is told of orders to what is told of the format, and back
to_misfit : (file : List ℕ) (place : ℕ) → OutOfRange file place → Misfit order_format [] file place
to_misfit file place m = record {
  head = head m.order;
  passed = m.before;
  here = m.due;
  after = m.after;
  follows = subst (λ l. Follows order_format l (head m.order)) m.split (order_follows m.order m.good);
  read = m.read;
  from = m.from;
  there = m.there;
  wrong = λ rest h s. let r = read _ h s in m.wrong (rest, (r.order, r.reads));
}

from_misfit : (file : List ℕ) (place : ℕ) → Misfit order_format [] file place → OutOfRange file place
from_misfit file place m =
    let o = ordered (m.passed ++ m.here ∷ m.after) m.head m.follows in
    record {
      order = o.order;
      before = m.passed;
      due = m.here;
      after = m.after;
      good = good o.order _ m.head o.is m.follows;
      split = o.is;
      read = m.read;
      from = m.from;
      there = m.there;
      wrong = λ b. m.wrong b.0 (head b.1.0) (spells _ b.1.0 b.1.1);
    }

to_tells : (file : List ℕ) (r : Result Figures Fault) → Told file r → Tells order_format [] file r
to_tells file (Ok h) t = subst (Spells order_format [] file) (sym t.2) (spells file t.0 t.1)
to_tells file (Err e) (inl t) = inl (t.0, (t.1.0, head t.1.2.0, t.1.1, spells _ t.1.2.0 t.1.2.1))
to_tells file (Err e) (inr (inl t)) = inr (inl (t.0, t.1, to_misfit file t.0 t.2))
to_tells file (Err e) (inr (inr t)) = inr (inr (t.0, t.1, (head t.2.1.0, t.2.0, spells _ t.2.1.0 t.2.1.1)))

from_tells : (file : List ℕ) (r : Result Figures Fault) → Tells order_format [] file r → Told file r
from_tells file (Ok h) t = let r = read file h t in (r.order, r.reads, sym r.ends)
from_tells file (Err e) (inl t) = let r = read _ t.1.1 t.1.3 in inl (t.0, (t.1.0, t.1.2, (r.order, r.reads)))
from_tells file (Err e) (inr (inl t)) = inr (inl (t.0, t.1, from_misfit file t.0 t.2))
from_tells file (Err e) (inr (inr t)) = let r = read _ t.2.0 t.2.2 in inr (inr (t.0, t.1, (t.2.1, (r.order, r.reads))))

pub settles : (file : List ℕ) → ((i : ℕ) → Fits w8 (get_or file i 0)) → (r : Result Figures Fault) → run order_format file 0 ≡ r → Settled file r
settles file small r e =
    let le : 0 ≤ length file = omega arith in
    subst (Settled file) e (record {
      told = from_tells file (run order_format file 0) (told order_format order_open file small 0 le);
      alone = λ s t. alone order_format order_open file small 0 le s (to_tells file s t);
    })

pub one_reading : OneReading
one_reading file o p r s =
    one_order o p
    (one_path order_format (figures o) (figures p) (head o) (head p) (order_follows o r.good) (order_follows p s.good) (r.spells ∙ sym s.spells))
