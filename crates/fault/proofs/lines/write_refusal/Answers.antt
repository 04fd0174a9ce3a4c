use Rattle.std.proofs.Common.{◌≡◌, ℕ, ◌+◌, ◌^◌, ◌<◌, ◌≤◌, List, ◌++◌, length, Some, None, Ok, codes, Result, sym, ap, refl, ◌∙◌, arith}
use Rattle.std.proofs.lemmas.List.{append-nil, append_assoc}
use Rattle.fault.specs.declared.refusal.Fault.{Fault}
use Rattle.fault.specs.declared.refusal.Layer.{Layer}
use Rattle.fault.specs.declared.refusal.Layer.TheVariants.{Page, Text, Order}
use Rattle.fault.specs.declared.writer.Writer.{Writer}
use Rattle.fault.specs.Faults.{number, layer}
use Rattle.fault.specs.Lines.{refusal_text, spaced, piece_text}
use Rattle.fault.specs.Written.{labelled}
use Rattle.fault.specs.WrittenBy.{WrittenBy}
use Rattle.fault.proofs.Filled.{Filled, labelled_first, labelled_more, filled_wrote, stopped, room_there}
use Rattle.fault.proofs.lines.write_refusal.Goals as goal

spaced_short : (l : Layer) → length (spaced l) ≤ 7
spaced_short Page = omega arith
spaced_short Text = omega arith
spaced_short Order = omega arith

abbrev numbered : ℕ → List ℕ
numbered n = labelled (codes "refused ") n

module _ (w : Writer) (fits : w.at + 80 ≤ length w.out.now) where
  -- the number of the refusal is not refused, nor the place behind its layer
  first : (n : ℕ) (v : Writer) (r : Result (Unit {0}) Fault) → n < 1000 → WrittenBy (length (numbered n)) (numbered n) w v r → (r ≡ Ok tt) × Filled 11 w (numbered n) v
  first n v r small = labelled_first 80 w fits 3 11 (codes "refused ") n v r (omega arith) small (omega arith) (omega arith) (omega arith)

  second : (n place : ℕ) (word : List ℕ) (l : Layer) (v u : Writer) (r : Result (Unit {0}) Fault) → place < 2 ^ 64 → word ≡ spaced l → Filled 11 w (numbered n) v → WrittenBy (length (labelled word place)) (labelled word place) v u r → (r ≡ Ok tt) × Filled 38 w (numbered n ++ labelled word place) u
  second n place word l v u r far e = labelled_more 80 w fits 11 20 38 _ word place v u r (omega arith) (omega arith) far (omega (arith, ap length e, spaced_short l)) (omega arith)

module _ (f : Fault) (n : ℕ) (word : List ℕ) (is_number : n ≡ number f.refusal) (is_layer : word ≡ spaced (layer f.refusal)) where
  whole : (o : _) → f.piece ≡ o → (numbered n ++ labelled word f.place) ++ piece_text o ≡ refusal_text f
  whole o e =
      append_assoc (numbered n) (labelled word f.place) (piece_text o)
      ∙ (λ i. numbered (is_number i) ++ (labelled (is_layer i) f.place ++ piece_text (sym e i)))

pub returns-in_err-labelled : goal.returns-in_err-labelled
returns-in_err-labelled c =
    let fits = room_there _ _ 80 _ c.wants.ensures c.in_ok-wants.was in
    absurd (stopped (first _ fits _ _ _ (omega (arith, c.from.ensures, c.from-2.ensures)) c.labelled.ensures) c.in_err-labelled.was)

pub returns-in_err-labelled-2 : goal.returns-in_err-labelled-2
returns-in_err-labelled-2 c =
    let fits = room_there _ _ 80 _ c.wants.ensures c.in_ok-wants.was in
    let one = first _ fits _ _ _ (omega (arith, c.from.ensures, c.from-2.ensures)) c.labelled.ensures in
    absurd (stopped (second _ fits _ _ _ _ _ _ _ (omega arith) c.spaced_word.ensures one.1 c.labelled-2.ensures) c.in_err-labelled-2.was)

pub returns-in-None : goal.returns-in-None
returns-in-None c =
    let fits = room_there _ _ 80 _ c.wants.ensures c.in_ok-wants.was in
    let one = first _ fits _ _ _ (omega (arith, c.from.ensures, c.from-2.ensures)) c.labelled.ensures in
    let two = second _ fits _ _ _ _ _ _ _ (omega arith) c.spaced_word.ensures one.1 c.labelled-2.ensures in
    let e = whole c.args.fault c.from-2.result c.spaced_word.result.now (c.from-2.ensures ∙ c.from.ensures) (c.spaced_word.ensures ∙ ap spaced c.layer.ensures) None c.in-None.is in
    filled_wrote 80 _ fits 38 _ _ _ _ (omega arith) refl (sym (append-nil _) ∙ e) two.1

pub returns-in-Some : goal.returns-in-Some
returns-in-Some c =
    let fits = room_there _ _ 80 _ c.wants.ensures c.in_ok-wants.was in
    let one = first _ fits _ _ _ (omega (arith, c.from.ensures, c.from-2.ensures)) c.labelled.ensures in
    let two = second _ fits _ _ _ _ _ _ _ (omega arith) c.spaced_word.ensures one.1 c.labelled-2.ensures in
    let three = labelled_more 80 _ fits 38 20 65 _ (codes " piece ") _ _ _ _ (omega arith) (omega arith) (omega arith) (omega arith) (omega arith) two.1 c.labelled-in-Some.ensures in
    let e = whole c.args.fault c.from-2.result c.spaced_word.result.now (c.from-2.ensures ∙ c.from.ensures) (c.spaced_word.ensures ∙ ap spaced c.layer.ensures) (Some c.in-Some.piece) c.in-Some.is in
    let known = ap (λ k. (numbered c.from-2.result ++ labelled c.spaced_word.result.now c.args.fault.place) ++ piece_text (Some k)) c.from-in-Some.ensures in
    filled_wrote 80 _ fits 65 _ _ _ _ (omega arith) three.0 (known ∙ e) three.1
