-- What `scroll` says of an order file.
use Rattle.std.specs.Prelude.{◌≡◌, ℕ, ◌≤◌, cond, List, length, Ok, Err, Result, MatchResult, nat_le}
use Rattle.fault.specs.declared.refusal.Refusal.TheVariants.{Memory}
use Rattle.fault.specs.declared.refusal.Fault.{Fault}
use Rattle.fault.specs.Faults.{fault}
use Rattle.fault.specs.Lines.{refusal_text}
use Rattle.fault.specs.Written.{overwrite, Written}
use Rattle.measure.specs.Products.{depth, gutter}
use Rattle.measure.specs.Filing.{depth_filing}
use Rattle.page.specs.Pieces.{Held, empty}
use Rattle.order.specs.Order.{Order, Reads}
use Rattle.order.specs.Told.{Told}
use Rattle.order.specs.Fills.{Outcome, filling}
use Rattle.order.specs.Headings.{heading}

-- an empty page of the order's breadth, with the tables that h has
abbrev pub fresh : Order → Held ℕ → Held ℕ
fresh o h = record { page = empty o.breadth; widths = h.widths; amounts = h.amounts }

-- the order's pieces put on it, by lines, with its gutter between pieces above each other
abbrev pub scrolled : Order → ℕ → Held ℕ → Outcome ℕ
scrolled o scratch h =
    cond (nat_le 8 scratch) (filling (gutter depth o.gutter) depth_filing 0 o.pieces (fresh o h)) (record { answer = Err (fault Memory); leaves = fresh o h })

-- the line for so many pieces put, or none where a piece was refused
abbrev pub Lined : Result ℕ Fault → ℕ → List ℕ → List ℕ → Result ℕ Fault → Type 0
Lined (Ok n) breadth before after r = Written 80 (heading n breadth) before 0 after r
Lined (Err e) breadth before after r = (r ≡ Err e) × (after ≡ before)

-- a file that is no order is refused as the check tells, and nothing changes; else the order's pieces are put on a fresh page, and
-- the line says how many there are, or the first refusal is answered and no line written
pub record Summed (file : List ℕ) (scratch : ℕ) (h k : Held ℕ) (before after : List ℕ) (r : Result ℕ Fault) : Type 0 where
  pub refused : (e : Fault) → Told file (Err e) → (r ≡ Err e) × ((k ≡ h) × (after ≡ before))
  pub leaves : (o : Order) → Reads file o → k ≡ (scrolled o scratch h).leaves
  pub line : (o : Order) → Reads file o → Lined (scrolled o scratch h).answer o.breadth before after r
  pub short : (n : ℕ) → r ≡ Ok n → n ≤ 80

-- the line holds just this text at its front, and so many bytes are told of a page, or of a refusal
pub record Says (told : ℕ → Result ℕ ℕ) (text before after : List ℕ) (r : Result ℕ ℕ) : Type 0 where
  pub end : r ≡ told (length text)
  pub memory : after ≡ overwrite 0 text before

abbrev pub SaysOf : Result ℕ Fault → ℕ → List ℕ → List ℕ → Result ℕ ℕ → Type 0
SaysOf (Ok n) breadth before after r = Says Ok (heading n breadth) before after r
SaysOf (Err e) breadth before after r = Says Err (refusal_text e) before after r

-- every file gets its line, of at most 80 bytes: that of its order's page, or that of the refusal
pub record Replied (file : List ℕ) (scratch : ℕ) (h k : Held ℕ) (before after : List ℕ) (r : Result ℕ ℕ) : Type 0 where
  pub refused : (e : Fault) → Told file (Err e) → (k ≡ h) × Says Err (refusal_text e) before after r
  pub leaves : (o : Order) → Reads file o → k ≡ (scrolled o scratch h).leaves
  pub line : (o : Order) → Reads file o → SaysOf (scrolled o scratch h).answer o.breadth before after r
  pub short : MatchResult r (λ n. n ≤ 80) (λ n. n ≤ 80)
