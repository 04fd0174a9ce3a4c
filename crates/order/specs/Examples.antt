-- Examples of orders and their bytes, computed by the checker.
use Rattle.std.specs.Prelude.{◌≡◌, ℕ, [], ◌∷◌, ◌++◌, replicate, Ok, Err, codes, refl}
use Rattle.std.specs.Fmt.{digits}
use Rattle.fault.specs.declared.refusal.Refusal.TheVariants.{Width}
use Rattle.fault.specs.Faults.{fault_at, of_piece}
use Rattle.measure.specs.Products.{depth, gutter}
use Rattle.measure.specs.Filing.{depth_filing}
use Rattle.page.specs.Pieces.{Held, empty}
use Rattle.order.specs.Order.{FiledSetting, Order, sized, bytes}
use Rattle.order.specs.declared.reader.Size.TheVariants.{Pair}
use Rattle.order.specs.Fills.{filling}
use Rattle.order.specs.Headings.{heading}

-- a setting of no marks
abbrev plain : ℕ → ℕ → FiledSetting
plain width depth = record { width = width; marks = 0; depth = depth }

-- three pieces at breadth 4, gutter 0 and ceiling 40; the last has these widths
abbrev order_of : ℕ → ℕ → ℕ → Order
order_of u v w = record {
  breadth = 4;
  gutter = 0;
  ceiling = 40;
  pieces = (plain 1 2 ∷ (plain 2 1 ∷ [])) ∷ ((plain 1 2 ∷ (plain 2 1 ∷ [])) ∷ ((plain u 3 ∷ (plain v 2 ∷ (plain w 1 ∷ []))) ∷ []));
}

-- its bytes: the head, the numbers of settings, the widths, and the pairs of marks and depth
sample_bytes : bytes (order_of 1 2 3) ≡
    (3 ∷ (4 ∷ (0 ∷ (40 ∷ (0 ∷ [])))))
    ++ ((2 ∷ (2 ∷ (3 ∷ [])))
    ++ ((1 ∷ (2 ∷ (1 ∷ (2 ∷ (1 ∷ (2 ∷ (3 ∷ [])))))))
    ++ ((0 ∷ (0 ∷ (2 ∷ (0 ∷ [])))) ++ ((0 ∷ (0 ∷ (1 ∷ (0 ∷ [])))) ++ ((0 ∷ (0 ∷ (2 ∷ (0 ∷ [])))) ++ ((0 ∷ (0 ∷ (1 ∷ (0 ∷ []))))
    ++ ((0 ∷ (0 ∷ (3 ∷ (0 ∷ [])))) ++ ((0 ∷ (0 ∷ (2 ∷ (0 ∷ [])))) ++ (0 ∷ (0 ∷ (1 ∷ (0 ∷ []))))))))))))
sample_bytes = refl

-- 40,000 is 64 and 156 times 256
largest_ceiling : sized Pair 40000 ≡ 64 ∷ (156 ∷ [])
largest_ceiling = refl

-- its pieces put on an empty page with tables of 96 places
abbrev fresh : Held ℕ
fresh = record { page = empty 4; widths = replicate 96 0; amounts = replicate 96 0 }

all_put : (filling (gutter depth 0) depth_filing 0 (order_of 1 2 3).pieces fresh).answer ≡ Ok 3
all_put = refl

-- widths 1 1 3: setting 1 of piece 2 is refused, and two pieces stay
third_refused : (filling (gutter depth 0) depth_filing 0 (order_of 1 1 3).pieces fresh).answer ≡ Err (of_piece 2 (fault_at Width 1))
third_refused = refl

two_stay : (filling (gutter depth 0) depth_filing 0 (order_of 1 1 3).pieces fresh).leaves.page.count ≡ 2
two_stay = refl

sample_heading : heading 3 4 ≡ codes "pieces 3 breadth 4"
unfolding digits
sample_heading = refl
