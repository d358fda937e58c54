-- The numbers of a line that is read are within their limits.
--
--   Fitting l          what a line says is within its limits
--   Fits r             the same of what is read of a line, which is else refused with 1 or 2
--   shapeless, line_in_fits    a refusal with 1, and every line
--   line_fits, refused_fits   range lines, and lines that are not read
--   range_limits       the limits of a range line, one by one
use mathlib.Core.Path.{◌≡◌, refl, subst}
use mathlib.Core.Bool.{Bool, true, false, cond}
use mathlib.Core.List.{List, [], ◌∷◌}
use Prim.Native.Nat.{ℕ, ◌≤◌}
use native.Mathlib.Omega.{arith}
use Rattle.slicing.specs.Limits.{max_range, max_limit, max_id, outside, device_outside}
use Rattle.slicing.proofs.Limits.{or_false, outside_false}
use Rattle.std.specs.Prelude.{Option, Some, None, Result, Ok, Err}
use Rattle.refusals.specs.Replies.{number}
use Rattle.refusals.specs.declared.Refusal.{Refusal}
use Rattle.refusals.specs.declared.Refusal.TheVariants.{Shapeless, Outside}
use Rattle.history_lines.specs.declared.lines.HistoryLine.{HistoryLine}
use Rattle.history_lines.specs.declared.lines.HistoryLine.TheVariants.{Range, Add, Remove, Resize}
use Rattle.history_lines.specs.Lines.{range_word, add_word, remove_word, resize_word, same, pair_line, remove_line, range_outside, line_of, line_in}
use Rattle.history_numbers.specs.Text.{space, split, number_in, capacity_in}

-- a line within its limits
abbrev pub Fitting : HistoryLine → Type 0
Fitting (Range R M) = range_outside R M ≡ false
Fitting (Add d c) = device_outside d c ≡ false
Fitting (Remove d) = outside max_id d ≡ false
Fitting (Resize d c) = device_outside d c ≡ false

-- one of 1 or 2 where it is refused
abbrev pub Fits : Result HistoryLine Refusal → Type 0
Fits (Err e) = (1 ≤ number e) × (number e ≤ 2)
Fits (Ok l) = Fitting l

pub shapeless : Fits (Err Shapeless)
shapeless = (omega arith, omega arith)

either : (t : Bool) (l m : Result HistoryLine Refusal) → Fits l → Fits m → Fits (cond t l m)
either true l m f g = f
either false l m f g = g

judged : (t : Bool) (l : HistoryLine) → (t ≡ false → Fitting l) → Fits (cond t (Err Outside) (Ok l))
judged true l f = (omega arith, omega arith)
judged false l f = f refl

pair_fits : (f : ℕ → ℕ → HistoryLine) (out : ℕ → ℕ → Bool) → ((a b : ℕ) → out a b ≡ false → Fitting (f a b)) → (p q : Option ℕ) → Fits (pair_line f out p q)
pair_fits f out h None q = shapeless
pair_fits f out h (Some a) None = shapeless
pair_fits f out h (Some a) (Some b) = judged (out a b) (f a b) (h a b)

removed_fits : (p : Option ℕ) → Fits (remove_line p)
removed_fits None = shapeless
removed_fits (Some d) = judged (outside max_id d) (Remove d) (λ e. e)

words_fit : (ws : List (List ℕ)) → Fits (line_of ws)
words_fit [] = shapeless
words_fit (k ∷ []) = shapeless
words_fit (k ∷ a ∷ []) = either (same k remove_word) _ _ (removed_fits (number_in a)) shapeless
words_fit (k ∷ a ∷ b ∷ []) =
    either (same k range_word) _ _ (pair_fits Range range_outside (λ R M e. e) (number_in a) (number_in b))
    (either (same k add_word) _ _ (pair_fits Add device_outside (λ d c e. e) (number_in a) (capacity_in b))
    (either (same k resize_word) _ _ (pair_fits Resize device_outside (λ d c e. e) (number_in a) (capacity_in b)) shapeless))
words_fit (k ∷ a ∷ b ∷ c ∷ ws) = shapeless

pub line_in_fits : (xs : List ℕ) → Fits (line_in xs)
unfolding line_in
line_in_fits xs = words_fit (split space xs)

pub line_fits : (xs : List ℕ) (R M : ℕ) → line_in xs ≡ Ok (Range R M) → range_outside R M ≡ false
line_fits xs R M e = subst Fits e (line_in_fits xs)

pub refused_fits : (xs : List ℕ) (e : Refusal) → line_in xs ≡ Err e → (1 ≤ number e) × (number e ≤ 2)
refused_fits xs e q = subst Fits q (line_in_fits xs)

pub range_limits : (R M : ℕ) → range_outside R M ≡ false → (1 ≤ R) × (R ≤ max_range) × (1 ≤ M) × (M ≤ max_limit)
range_limits R M e =
    let p : (outside max_range R ≡ false) × (outside max_limit M ≡ false) = or_false (outside max_range R) (outside max_limit M) e in
    let r : (1 ≤ R) × (R ≤ max_range) = outside_false max_range R p.0 in
    let m : (1 ≤ M) × (M ≤ max_limit) = outside_false max_limit M p.1 in
    (r.0, r.1, m.0, m.1)
