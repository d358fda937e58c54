-- Laws of the words that are numbers and capacities.
--
-- Bool: and_false; outside_low, outside_high
-- numbers: leading_low, leading_other, leading_single; number_short, number_long, number_led, number_digits
-- capacities: pointed (a text with a point in it is not all digits), capacity_pointed (a first part, and what stands behind the first point);
--   capacity_none, capacity_whole, capacity_rest, capacity_all; text_size
use mathlib.Core.Path.{◌≡◌, refl, sym}
use mathlib.Core.Bool.{Bool, true, false, cond, ◌&&◌, not}
use mathlib.Core.List.{List, [], ◌∷◌}
use Prim.Native.Nat.{ℕ, ◌+◌, ◌*◌, ◌^◌, ◌≤◌, ◌<◌}
use native.Mathlib.Omega.{arith}
use lib.Dec.{eqb}
use lib.ListN.{length, get_or, take, drop}
use lib.Seq.{take-length}
use borrow.Author.Tests.{lt-ltb, le-ltb, lt-leb, ne_eqb, eqb-true, eqb-false}
use Rattle.std.specs.Prelude.{Some, None}
use Rattle.slicing.specs.Limits.{outside}
use Rattle.slicing.proofs.Limits.{within_limits}
use Rattle.history_numbers.specs.Cuts.{cut_at}
use Rattle.history_numbers.specs.Text.{point, split, is_digit, all_digits, spelled, leading_zero, is_number, number_in, is_fraction, fraction_of, thousandths, capacity_in}
use Rattle.history_numbers.proofs.Splitting.{cut_at_below, split_whole, split_cut, split_some, Found, behind, Cut, cut_made, found_whole, cut_split}
use Rattle.history_numbers.proofs.DigitWords.{no_number, same_number}

-- ---- Bool

pub and_false : (t : Bool) → t && false ≡ false
and_false true = refl
and_false false = refl

cond_none : (t : Bool) (n : ℕ) → cond t (Some n) None ≡ None → t ≡ false
cond_none true n e = absurd (no_number n (sym e))
cond_none false n e = refl

cond_some : (t : Bool) (n v : ℕ) → cond t (Some n) None ≡ Some v → (t ≡ true) × (n ≡ v)
cond_some true n v e = (refl, same_number n v e)
cond_some false n v e = absurd (no_number v e)

-- ---- outside

module _ (k x : ℕ) where
  outside_low : x < 1 → outside k x ≡ true
  outside_low h = rw (lt-ltb x 1 h)

  outside_high : 1 ≤ x → k < x → outside k x ≡ true
  outside_high l h = rw (le-ltb x 1 l, lt-ltb k x h)

-- ---- numbers

-- a first byte up to `0`, with more behind it, is a leading zero or no digit
leading_low : (s : Bool) (w : List ℕ) → 1 < length w → get_or w 0 0 ≤ 48 → s && not (leading_zero w) && all_digits w ≡ false
leading_low s [] h l = absurd (omega arith)
leading_low s (b ∷ []) h l = absurd (omega arith)
leading_low s (b ∷ c ∷ bs) h l = go (eqb b 48) refl
  where
    go : (t : Bool) → eqb b 48 ≡ t → s && not (leading_zero (b ∷ c ∷ bs)) && all_digits (b ∷ c ∷ bs) ≡ false
    go true e = rw (e, and_false s)
    go false e = rw (lt-leb 48 b (omega (arith, eqb-false b 48 e))) (and_false (s && not (eqb b 48)))

pub leading_other : (w : List ℕ) → 1 < length w → (get_or w 0 0 ≡ 48 → ⊥) → leading_zero w ≡ false
leading_other [] h e = absurd (omega arith)
leading_other (b ∷ []) h e = absurd (omega arith)
leading_other (b ∷ c ∷ bs) h e = ne_eqb b 48 e

pub leading_single : (w : List ℕ) → length w ≤ 1 → leading_zero w ≡ false
leading_single [] h = refl
leading_single (b ∷ []) h = refl
leading_single (b ∷ c ∷ bs) h = absurd (omega arith)

module _ (w : List ℕ) where
  none : is_number w ≡ false → None ≡ number_in w
  unfolding number_in
  none e = rw e

  pub number_short : length w < 1 → None ≡ number_in w
  number_short h = none (rw (outside_low 10 (length w) h))

  pub number_long : 10 < length w → None ≡ number_in w
  number_long h = none (rw (outside_high 10 (length w) (omega arith) h))

  pub number_led : 1 < length w → get_or w 0 0 ≤ 48 → None ≡ number_in w
  number_led h l = none (leading_low (not (outside 10 (length w))) w h l)

  pub number_digits : 1 ≤ length w → length w ≤ 10 → leading_zero w ≡ false → cond (all_digits w) (Some (spelled 0 w)) None ≡ number_in w
  unfolding number_in
  number_digits l m z = rw (within_limits 10 (length w) l m, z)

-- ---- capacities

pub pointed : (w : List ℕ) → cut_at point w < length w → all_digits w ≡ false
pointed [] h = absurd (omega arith)
pointed (b ∷ bs) h = go (eqb b point) refl (pointed bs)
  where
    go : (t : Bool) → eqb b point ≡ t → (cut_at point bs < length bs → all_digits bs ≡ false) → all_digits (b ∷ bs) ≡ false
    go true e r = rw (eqb-true b point e)
    go false e r = rw (r (omega (arith, rw e at h))) (and_false (is_digit b))

-- a third part
thousandths_more : (w f : List ℕ) (ps : List (List ℕ)) → (ps ≡ [] → ⊥) → thousandths (w ∷ f ∷ ps) ≡ None
thousandths_more w f [] h = absurd (h refl)
thousandths_more w f (p ∷ ps) h = refl

pub capacity_pointed : (w r : List ℕ)
    → thousandths (w ∷ split point r) ≡ cond (is_number w && is_fraction r) (Some (1000 * spelled 0 w + fraction_of r)) None
capacity_pointed w r = go (eqb (cut_at point r) (length r)) refl
  where
    go : (t : Bool) → eqb (cut_at point r) (length r) ≡ t
        → thousandths (w ∷ split point r) ≡ cond (is_number w && is_fraction r) (Some (1000 * spelled 0 w + fraction_of r)) None
    go true e = rw (split_whole point r (eqb-true (cut_at point r) (length r) e))
    go false e =
        let h : cut_at point r < length r = omega (arith, cut_at_below point r, eqb-false (cut_at point r) (length r) e) in
        let f : is_fraction r ≡ false = rw (pointed r h) (and_false (not (outside 3 (length r)))) in
        let rest : List ℕ = drop (cut_at point r + 1) r in
        rw (split_cut point r h, f, and_false (is_number w)) (thousandths_more w (take (cut_at point r) r) (split point rest) (split_some point rest))

module _ (w : List ℕ) (n : ℕ) where
  no_whole : number_in (take n w) ≡ None → is_number (take n w) ≡ false
  unfolding number_in
  no_whole e = cond_none (is_number (take n w)) (spelled 0 (take n w)) e

  some_whole : (v : ℕ) → number_in (take n w) ≡ Some v → (is_number (take n w) ≡ true) × (spelled 0 (take n w) ≡ v)
  unfolding number_in
  some_whole v e = cond_some (is_number (take n w)) (spelled 0 (take n w)) v e

  whole_in : Found point w n → n ≡ length w → capacity_in w ≡ cond (is_number (take n w)) (Some (1000 * spelled 0 (take n w))) None
  unfolding capacity_in
  whole_in f e = rw (found_whole point w n f e, e, take-length w)

  cut_in : (rest : List ℕ) → Cut point w n rest
      → capacity_in w ≡ cond (is_number (take n w) && is_fraction rest) (Some (1000 * spelled 0 (take n w) + fraction_of rest)) None
  unfolding capacity_in
  cut_in rest c = rw (cut_split point w n rest c) (capacity_pointed (take n w) rest)

  module _ (f : Found point w n) where
    pub capacity_none : number_in (take n w) ≡ None → None ≡ capacity_in w
    capacity_none e = go (eqb n (length w)) refl
      where
        go : (b : Bool) → eqb n (length w) ≡ b → None ≡ capacity_in w
        go true k = rw (whole_in f (eqb-true n (length w) k), no_whole e)
        go false k = rw (cut_in (behind w n) (cut_made point w n f (eqb-false n (length w) k)), no_whole e)

    pub capacity_whole : (v : ℕ) → number_in (take n w) ≡ Some v → n ≡ length w → Some (1000 * v) ≡ capacity_in w
    capacity_whole v e l = rw (whole_in f l, (some_whole v e).0, (some_whole v e).1)

    module _ (i : n ≡ length w → ⊥) (v : ℕ) (e : number_in (take n w) ≡ Some v) where
      cut : capacity_in w ≡ cond (is_fraction (behind w n)) (Some (1000 * v + fraction_of (behind w n))) None
      cut = rw (cut_in (behind w n) (cut_made point w n f i), (some_whole v e).0, (some_whole v e).1)

      pub capacity_rest : cond (is_fraction (behind w n)) (Some (fraction_of (behind w n))) None ≡ None → None ≡ capacity_in w
      capacity_rest k = rw (cut, cond_none (is_fraction (behind w n)) (fraction_of (behind w n)) k)

      pub capacity_all : (u : ℕ) → cond (is_fraction (behind w n)) (Some (fraction_of (behind w n))) None ≡ Some u
          → Some (1000 * v + u) ≡ capacity_in w
      capacity_all u k =
          let s = cond_some (is_fraction (behind w n)) (fraction_of (behind w n)) u k in
          rw (cut, s.0, s.1)

-- the largest text, `9999999999.999`, is far inside 64 bits
pub text_size : {whole rest : ℕ} → whole < 10 ^ 10 → rest < 1000 → 1000 * whole + rest ≤ 9999999999999
text_size h l = omega arith
