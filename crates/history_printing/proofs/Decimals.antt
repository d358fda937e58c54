-- The decimal digits of a number.
--
--   digits_more             more digits than are needed change nothing
--   decimal_low             a number below 10 is one digit
--   decimal_high            the digits of a tenth, and the last digit
--   length_decimal_high     the number of digits then
--   length_decimal          at most 10 digits for a number below 10 ^ 10
--   decimal_some            at least one
--   length_field            a number and the byte behind it
--   length_fields3, length_fields4    a line of three or four such numbers
use mathlib.Core.Path.{◌≡◌, sym, ap, ◌∙◌}
use mathlib.Core.Bool.{Bool, true, false, cond}
use mathlib.Core.List.{List, [], ◌∷◌, ◌++◌}
use Prim.Native.Nat.{ℕ, zero, suc, ◌+◌, ◌/◌, ◌%◌, ◌^◌, ◌≤◌, ◌<◌}
use native.Mathlib.Omega.{arith}
use native.Mathlib.Nat.{pow-suc}
use lib.Dec.{ltb}
use lib.ListN.{length, length-append}
use borrow.Author.Tests.{lt-ltb, le-ltb}
use Rattle.history_numbers.specs.Text.{line_end, space, zero_digit}
use Rattle.history_printing.specs.Printing.{digits, decimal, fields}

tenth : (k n : ℕ) → n < 10 ^ suc (suc k) → n / 10 < 10 ^ suc k
tenth k n h = omega (arith, pow-suc 10 (suc k))

pub digits_more : (k n : ℕ) → n < 10 ^ suc k → digits (suc (suc k)) n ≡ digits (suc k) n
digits_more zero n h = rw (lt-ltb n 10 h)
digits_more (suc k) n h =
    ap (λ ds. cond (ltb n 10) ((zero_digit + n) ∷ []) (ds ++ (zero_digit + n % 10) ∷ [])) (digits_more k (n / 10) (tenth k n h))

pub decimal_low : (n : ℕ) → n < 10 → decimal n ≡ (zero_digit + n) ∷ []
unfolding decimal
decimal_low n h = rw (lt-ltb n 10 h)

pub decimal_high : (n : ℕ) → n < 2 ^ 64 → 10 ≤ n → decimal n ≡ decimal (n / 10) ++ (zero_digit + n % 10) ∷ []
unfolding decimal
decimal_high n f h =
    let e : digits 20 (n / 10) ≡ digits 19 (n / 10) = digits_more 18 (n / 10) (omega arith) in
    ap (λ t. cond t ((zero_digit + n) ∷ []) (digits 19 (n / 10) ++ (zero_digit + n % 10) ∷ [])) (le-ltb n 10 h)
    ∙ ap (λ ds. ds ++ (zero_digit + n % 10) ∷ []) (sym e)

-- ---- lengths

pub length_decimal_high : (n : ℕ) → n < 2 ^ 64 → 10 ≤ n → length (decimal n) ≡ length (decimal (n / 10)) + 1
length_decimal_high n f h = ap length (decimal_high n f h) ∙ length-append (decimal (n / 10)) ((zero_digit + n % 10) ∷ [])

-- one digit, or one more than xs
most : (t : Bool) (xs : List ℕ) (x y k : ℕ) → length xs ≤ k → length (cond t (x ∷ []) (xs ++ y ∷ [])) ≤ suc k
most true xs x y k h = omega arith
most false xs x y k h = omega (arith, length-append xs (y ∷ []))

length_digits : (j k n : ℕ) → n < 10 ^ suc k → length (digits j n) ≤ suc k
length_digits zero k n h = omega arith
length_digits (suc j) zero n h = rw (lt-ltb n 10 h) (omega arith)
length_digits (suc j) (suc k) n h =
    most (ltb n 10) (digits j (n / 10)) (zero_digit + n) (zero_digit + n % 10) (suc k) (length_digits j k (n / 10) (tenth k n h))

pub length_decimal : (n : ℕ) → n < 10 ^ 10 → length (decimal n) ≤ 10
unfolding decimal
length_decimal n h = length_digits 20 9 n h

least : (t : Bool) (xs : List ℕ) (x y : ℕ) → 1 ≤ length (cond t (x ∷ []) (xs ++ y ∷ []))
least true xs x y = omega arith
least false xs x y = omega (arith, length-append xs (y ∷ []))

pub decimal_some : (n : ℕ) → 1 ≤ length (decimal n)
unfolding decimal
decimal_some n = least (ltb n 10) (digits 19 (n / 10)) (zero_digit + n) (zero_digit + n % 10)

pub length_field : (n e : ℕ) (xs : List ℕ) → n < 10 ^ 10 → length (decimal n ++ e ∷ xs) ≤ 11 + length xs
length_field n e xs h = omega (arith, length-append (decimal n) (e ∷ xs), length_decimal n h)

pub length_fields3 : (a b c : ℕ) → a < 10 ^ 10 → b < 10 ^ 10 → c < 10 ^ 10 → length (fields (a ∷ b ∷ c ∷ [])) ≤ 33
length_fields3 a b c f g h =
    omega (
      arith,
      length_field a space (fields (b ∷ c ∷ [])) f,
      length_field b space (fields (c ∷ [])) g,
      length_field c line_end [] h,
    )

pub length_fields4 : (a b c d : ℕ) → a < 10 ^ 10 → b < 10 ^ 10 → c < 10 ^ 10 → d < 10 ^ 10 → length (fields (a ∷ b ∷ c ∷ d ∷ [])) ≤ 44
length_fields4 a b c d f g h k = omega (arith, length_field a space (fields (b ∷ c ∷ d ∷ [])) f, length_fields3 b c d g h k)
