-- Where a text is cut: how the code finds the parts.
--
--   cut_at s xs     how many bytes stand before the first byte s
use Rattle.std.specs.Prelude.{cond, List, [], ◌∷◌, ℕ, suc, eqb}

abbrev pub cut_at : ℕ → List ℕ → ℕ
cut_at s [] = 0
cut_at s (b ∷ bs) = let r = cut_at s bs in cond (eqb b s) 0 (suc r)
