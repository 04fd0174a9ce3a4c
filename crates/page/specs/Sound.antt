-- The ranges that a page record keeps.
use Rattle.std.specs.Prelude.{◌≡◌, ℕ, ◌<◌, ◌≤◌, List, slice_index}

-- a piece has 1 to 8 settings
abbrev pub Here : ℕ → List ℕ → Type 0
Here count settings = (k : ℕ) → k < count → (1 ≤ slice_index settings k) × (slice_index settings k ≤ 8)

-- what is no piece has none
abbrev pub Past : ℕ → List ℕ → Type 0
Past count settings = (k : ℕ) → count ≤ k → slice_index settings k ≡ 0
