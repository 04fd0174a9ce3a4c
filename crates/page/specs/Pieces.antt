-- What a page record and its two settings tables hold.
use Rattle.std.specs.Prelude.{ℕ, zero, suc, ◌*◌, List, [], ◌∷◌, ◌++◌, take, drop, replicate, slice_index}
use Rattle.measure.specs.Settings.{Setting, paired}
use Rattle.page.specs.declared.record.Page.{Page}

-- the numbers of a page record
pub record PageData : Type 0 where
  pub breadth : ℕ
  pub count : ℕ
  pub settings : List ℕ
  pub standing : ℕ

abbrev pub data_of : Page → PageData
data_of p = record { breadth = p.breadth; count = p.count; settings = p.settings; standing = p.standing }

-- a page with no pieces
abbrev pub empty : ℕ → PageData
empty breadth = record { breadth = breadth; count = 0; settings = replicate 12 0; standing = 0 }

-- a page with its settings tables; piece k lies from place 8k on
pub record Held (A : Type 0) : Type 0 where
  pub page : PageData
  pub widths : List ℕ
  pub amounts : List A

abbrev pub held : {A : Type 0} → Page → List ℕ → List A → Held A
held p ws xs = record { page = data_of p; widths = ws; amounts = xs }

-- another page record beside the same tables
abbrev pub with_page : {A : Type 0} → PageData → Held A → Held A
with_page p h = record { page = p; widths = h.widths; amounts = h.amounts }

-- the n elements of piece k in a table
abbrev pub part : {A : Type 0} → ℕ → ℕ → List A → List A
part k n table = take n (drop (8 * k) table)

abbrev pub piece : {A : Type 0} → Held A → ℕ → List (Setting A)
piece h k = paired (part k (slice_index h.page.settings k) h.widths) (part k (slice_index h.page.settings k) h.amounts)

-- the first k pieces
abbrev pub pieces_to : {A : Type 0} → Held A → ℕ → List (List (Setting A))
pieces_to h zero = []
pieces_to h (suc k) = pieces_to h k ++ (piece h k ∷ [])

-- the pieces on the page, each as the list of its settings
abbrev pub pieces : {A : Type 0} → Held A → List (List (Setting A))
pieces h = pieces_to h h.page.count
