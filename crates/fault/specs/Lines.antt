-- The line of a refusal.
use Rattle.std.specs.Prelude.{ℕ, List, [], ◌++◌, Some, None, codes, Option}
use Rattle.fault.specs.declared.refusal.Layer.{Layer}
use Rattle.fault.specs.declared.refusal.Fault.{Fault}
use Rattle.fault.specs.Faults.{number, layer, word}
use Rattle.fault.specs.Written.{labelled}

-- a layer's word between spaces
abbrev pub spaced : Layer → List ℕ
spaced l = codes " " ++ (word l ++ codes " ")

abbrev pub piece_text : Option ℕ → List ℕ
piece_text None = []
piece_text (Some k) = labelled (codes " piece ") k

-- `refused NUMBER LAYER PLACE`, with ` piece K` behind it where there is a piece
abbrev pub refusal_text : Fault → List ℕ
refusal_text f =
    labelled (codes "refused ") (number f.refusal) ++ (labelled (spaced (layer f.refusal)) f.place ++ piece_text f.piece)
