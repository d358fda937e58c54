-- Words and numbers of a history text. Renders document 01, 'History text'.
--
--   split s xs          the parts of xs between the bytes s
--   is_number w          1 to 10 digits without a leading zero, or 0
--   spelled n w         the number that n and the digits w behind it spell
--   number_in w          the number that a word is, or that it is none
--   capacity_in w        a capacity in thousandths of a TB, or that it is none
use Rattle.std.specs.Prelude.{Bool, true, false, cond, ◌&&◌, not, List, [], ◌∷◌, ℕ, ◌+◌, ◌*◌, ◌-◌, ◌^◌, Option, None, Some, eqb, leb, length}
use Rattle.slicing.specs.Limits.{outside}

abbrev pub line_end : ℕ
line_end = 0x0a

abbrev pub space : ℕ
space = 0x20

abbrev pub point : ℕ
point = 0x2e

abbrev pub zero_digit : ℕ
zero_digit = 0x30

-- ---- parts

-- a byte in front of the first part
abbrev pub before : ℕ → List (List ℕ) → List (List ℕ)
before b [] = (b ∷ []) ∷ []
before b (p ∷ ps) = (b ∷ p) ∷ ps

-- one part more than there are bytes s: 'add 1 2' has three words
abbrev pub split : ℕ → List ℕ → List (List ℕ)
split s [] = [] ∷ []
split s (b ∷ bs) = let ps = split s bs in cond (eqb b s) ([] ∷ ps) (before b ps)

-- ---- numbers

abbrev pub is_digit : ℕ → Bool
is_digit b = leb zero_digit b && leb b 0x39

abbrev pub all_digits : List ℕ → Bool
all_digits [] = true
all_digits (b ∷ bs) = let r = all_digits bs in is_digit b && r

abbrev pub spelled : ℕ → List ℕ → ℕ
spelled n [] = n
spelled n (b ∷ bs) = spelled (10 * n + (b - zero_digit)) bs

abbrev pub leading_zero : List ℕ → Bool
leading_zero [] = false
leading_zero (b ∷ []) = false
leading_zero (b ∷ c ∷ bs) = eqb b zero_digit

-- 'A number is 1 to 10 digits without a leading zero, or `0`.'
abbrev pub is_number : List ℕ → Bool
is_number w = not (outside 10 (length w)) && not (leading_zero w) && all_digits w

unfoldable pub number_in : List ℕ → Option ℕ
number_in w = cond (is_number w) (Some (spelled 0 w)) None

-- ---- capacities

-- 'then optionally a point and 1 to 3 digits'
abbrev pub is_fraction : List ℕ → Bool
is_fraction f = not (outside 3 (length f)) && all_digits f

-- one digit counts hundreds of thousandths, two tens, three ones
abbrev pub fraction_of : List ℕ → ℕ
fraction_of f = spelled 0 f * 10 ^ (3 - length f)

-- 'A capacity is a number in TB', in thousandths
abbrev pub thousandths : List (List ℕ) → Option ℕ
thousandths [] = None
thousandths (w ∷ []) = cond (is_number w) (Some (1000 * spelled 0 w)) None
thousandths (w ∷ f ∷ []) = cond (is_number w && is_fraction f) (Some (1000 * spelled 0 w + fraction_of f)) None
thousandths (w ∷ f ∷ g ∷ ps) = None

unfoldable pub capacity_in : List ℕ → Option ℕ
capacity_in w = thousandths (split point w)
