-- The order file as data: an order, its figures in file order with their ranges, and its bytes.
use Rattle.std.specs.Prelude.{◌≡◌, ℕ, ◌/◌, ◌%◌, ◌≤◌, List, [], ◌∷◌, ◌++◌, map, length}
use Rattle.std.specs.List.{flat_map, AllByRecursion}
use Rattle.order.specs.declared.reader.Size.{Size}
use Rattle.order.specs.declared.reader.Size.TheVariants.{Byte, Pair}

-- a setting as an order files it: a width, and a pair of marks and depth
pub record FiledSetting : Type 0 where
  pub width : ℕ
  pub marks : ℕ
  pub depth : ℕ

-- an order: the page's breadth, gutter lines and ceiling depth, and the settings of each piece
pub record Order : Type 0 where
  pub breadth : ℕ
  pub gutter : ℕ
  pub ceiling : ℕ
  pub pieces : List (List FiledSetting)

-- a number in a file, with the range that it must keep, both ends included
pub record Figure : Type 0 where
  pub size : Size
  pub low : ℕ
  pub high : ℕ
  pub value : ℕ

-- the bytes of a number at a size
abbrev pub sized : Size → ℕ → List ℕ
sized Byte n = n ∷ []
sized Pair n = n % 256 ∷ (n / 256 ∷ [])

-- the bytes of a figure
abbrev pub spelt : Figure → List ℕ
spelt f = sized f.size f.value

-- a figure keeps its range
abbrev pub InRange : Figure → Type 0
InRange f = (f.low ≤ f.value) × (f.value ≤ f.high)

-- all settings, piece by piece
abbrev pub settings : Order → List FiledSetting
settings o = flat_map (λ (p : List FiledSetting). p) o.pieces

-- the number of settings of a piece
abbrev pub count_figure : List FiledSetting → Figure
count_figure p = record { size = Byte; low = 1; high = 8; value = length p }

-- a width, which may be any byte: it is tested where its piece is put
abbrev pub width_figure : FiledSetting → Figure
width_figure s = record { size = Byte; low = 0; high = 255; value = s.width }

-- the marks and the depth of a setting
abbrev pub pair_figures : FiledSetting → List Figure
pair_figures s =
    record { size = Pair; low = 0; high = 1000; value = s.marks }
    ∷ (record { size = Pair; low = 1; high = 2000; value = s.depth } ∷ [])

-- the figures of an order, in file order
abbrev pub figures : Order → List Figure
figures o =
    record { size = Byte; low = 1; high = 12; value = length o.pieces }
    ∷ (record { size = Byte; low = 1; high = 24; value = o.breadth }
    ∷ (record { size = Byte; low = 0; high = 200; value = o.gutter }
    ∷ (record { size = Pair; low = 1; high = 40000; value = o.ceiling }
    ∷ (map count_figure o.pieces ++ (map width_figure (settings o) ++ flat_map pair_figures (settings o))))))

-- the bytes of an order
abbrev pub bytes : Order → List ℕ
bytes o = flat_map spelt (figures o)

-- these bytes are those of the order, and all its figures are in range
pub record Reads (file : List ℕ) (o : Order) : Type 0 where
  pub good : AllByRecursion InRange (figures o)
  pub spells : bytes o ≡ file

-- the file is that of some order
abbrev pub GoodFile : List ℕ → Type 0
GoodFile file = (o : Order) × Reads file o

-- some continuation, perhaps none, makes a good file
abbrev pub Begins : List ℕ → Type 0
Begins file = (rest : List ℕ) × GoodFile (file ++ rest)
