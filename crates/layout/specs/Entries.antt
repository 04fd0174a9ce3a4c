-- The entries of a layout, and when two lists of entries are alike.
use Rattle.std.specs.Prelude.{◌≡◌, ℕ, List, [], ◌∷◌, ◌++◌, length, Some, None, Option}
use Rattle.std.specs.List.{slice_get}
use Rattle.layout.specs.declared.entry.Cut.{Cut}
use Rattle.layout.specs.declared.entry.Cut.TheVariants as cuts
use Rattle.layout.specs.declared.entry.Kind.{Kind}
use Rattle.layout.specs.declared.entry.Kind.TheVariants as kinds
use Rattle.layout.specs.declared.entry.Entry.{Entry}
use Rattle.layout.specs.Layouts.{Layout, cell, cut}

-- the number by which users know a kind
abbrev pub kind_number : Kind → ℕ
kind_number kinds.Cell = 0
kind_number (kinds.Cut cuts.Above) = 1
kind_number (kinds.Cut cuts.Beside) = 2

-- the cut that a kind is, if it is one
abbrev pub cut_of : Kind → Option Cut
cut_of kinds.Cell = None
cut_of (kinds.Cut c) = Some c

abbrev pub cell_entry : ℕ → ℕ → Entry
cell_entry k i = record { kind = kinds.Cell; piece = k; setting = i }

abbrev pub cut_entry : Cut → Entry
cut_entry c = record { kind = kinds.Cut c; piece = 0; setting = 0 }

-- one entry for each cell and each cut: left, right, cut
abbrev pub entries : Layout → List Entry
entries (cell k i) = cell_entry k i ∷ []
entries (cut c x y) = entries x ++ (entries y ++ (cut_entry c ∷ []))

-- the entries determine the layout
abbrev pub OneLayout : Type 0
OneLayout = (x y : Layout) → entries x ≡ entries y → x ≡ y

-- kind and piece agree; settings may differ
abbrev pub Agree : Entry → Entry → Type 0
Agree x y = (x.kind ≡ y.kind) × (x.piece ≡ y.piece)

-- one length, and the entries agree at every position
pub record Alike (xs ys : List Entry) : Type 0 where
  pub one_length : length xs ≡ length ys
  pub agree : (i : ℕ) (x y : Entry) → slice_get xs i ≡ Some x → slice_get ys i ≡ Some y → Agree x y
