-- Refusals by number and layer, and faults. What every promise about a refusal speaks through.
use Rattle.std.specs.Prelude.{ℕ, List, Some, None, Ok, Err, codes, Result}
use Rattle.fault.specs.declared.refusal.Refusal.{Refusal}
use Rattle.fault.specs.declared.refusal.Refusal.TheVariants.{Breadth, SettingCount, Memory, Width, Amount, PageFull, NoSuchPiece, NoPieces, WidthAsked, Unfinished, NoLayout, SpoiledCode, WrongSign, TextEndsEarly, TextGoesOn, WrongLetter, PieceMissing, FileEndsEarly, FigureOutOfRange, FileGoesOn}
use Rattle.fault.specs.declared.refusal.Layer.{Layer}
use Rattle.fault.specs.declared.refusal.Layer.TheVariants.{Page, Text, Order}
use Rattle.fault.specs.declared.refusal.Fault.{Fault}

-- the number by which users know a refusal
abbrev pub number : Refusal → ℕ
number Breadth = 1
number SettingCount = 2
number Memory = 3
number Width = 4
number Amount = 5
number PageFull = 6
number NoSuchPiece = 7
number NoPieces = 8
number WidthAsked = 9
number Unfinished = 10
number NoLayout = 11
number SpoiledCode = 12
number WrongSign = 13
number TextEndsEarly = 14
number TextGoesOn = 15
number WrongLetter = 16
number PieceMissing = 17
number FileEndsEarly = 18
number FigureOutOfRange = 19
number FileGoesOn = 20

-- what a refusal is about
abbrev pub layer : Refusal → Layer
layer Breadth = Page
layer SettingCount = Page
layer Memory = Page
layer Width = Page
layer Amount = Page
layer PageFull = Page
layer NoSuchPiece = Page
layer NoPieces = Page
layer WidthAsked = Page
layer Unfinished = Page
layer NoLayout = Page
layer SpoiledCode = Page
layer WrongSign = Text
layer TextEndsEarly = Text
layer TextGoesOn = Text
layer WrongLetter = Text
layer PieceMissing = Text
layer FileEndsEarly = Order
layer FigureOutOfRange = Order
layer FileGoesOn = Order

-- a layer's word in a printed line
abbrev pub word : Layer → List ℕ
word Page = codes "page"
word Text = codes "text"
word Order = codes "order"

-- a refusal at a place, of no piece
abbrev pub fault_at : Refusal → ℕ → Fault
fault_at r place = record { refusal = r; place = place; piece = None }

-- a refusal that has no place
abbrev pub fault : Refusal → Fault
fault r = fault_at r 0

-- the same fault, said of a piece
abbrev pub of_piece : ℕ → Fault → Fault
of_piece k f = record { refusal = f.refusal; place = f.place; piece = Some k }

-- a step, and what comes of its value where it was not refused
abbrev pub then : {A B : Type 0} → Result A Fault → (A → Result B Fault) → Result B Fault
then (Ok a) next = next a
then (Err e) next = Err e
