-- The rows of an image: pairs of numbers in six bytes, and the columns that they hold.
--
-- rows as pairs: device_bytes_rows, interval_bytes_rows (from arrays), device_bytes_lists, interval_bytes_lists (from a state's lists)
-- columns: pair_bytes_columns (written again), column_first, column_second (read back)
use mathlib.Core.Path.{◌≡◌, refl, sym, ap, ap₂, ◌∙◌}
use mathlib.Core.List.{List, [], ◌∷◌, ◌++◌, append_assoc}
use Prim.Native.Nat.{ℕ, zero, suc, ◌+◌, ◌*◌, ◌-◌, ◌^◌, ◌≤◌, ◌<◌}
use native.Mathlib.Nat.{add-zero}
use native.Mathlib.Omega.{arith}
use lib.Dec.{eqb}
use lib.ListN.{length, take, drop, length-append}
use lib.Seq.{drop-cons, take-add, drop-drop, take_all}
use Rattle.sha1_blocks.specs.Fips180.{bytes}
use Rattle.slicing.specs.Devices.{Device, ids}
use Rattle.slicing.specs.Runs.{Run, ◌of◌, total, Coalesced}
use Rattle.slicing_core.specs.Rows.{at, device_rows, table_rows}
use Rattle.pools.specs.Pools.{capacities_of, starts_of, owners_of}
use Rattle.pools.proofs.PoolLaws.{total_table_rows}
use Rattle.image_numbers.specs.Format.{device_bytes, interval_bytes, number_at, column}
use Rattle.image_bytes.specs.RowBytes.{pair_bytes}
use Rattle.image_numbers.proofs.ByteNumbers.{Bytes, bytes_number_at, number_at_bytes}
use Rattle.image_numbers.proofs.ImageSizes.{length_bytes}

-- ---- rows as pairs of numbers

pair_bytes_cons : (a b x y : ℕ) (ps qs : List ℕ) (i n : ℕ) → pair_bytes a b (x ∷ ps) (y ∷ qs) (suc i) n ≡ pair_bytes a b ps qs i n
pair_bytes_cons a b x y ps qs i zero = refl
pair_bytes_cons a b x y ps qs i (suc n) =
    ap (λ r. bytes a (at ps i) ++ bytes b (at qs i) ++ r) (pair_bytes_cons a b x y ps qs (suc i) n)

pub device_bytes_rows : (d c : List ℕ) (i n : ℕ) → device_bytes (device_rows d c i n) ≡ pair_bytes 2 4 d c i n
device_bytes_rows d c i zero = refl
device_bytes_rows d c i (suc n) = ap (λ r. bytes 2 (at d i) ++ bytes 4 (at c i) ++ r) (device_bytes_rows d c (suc i) n)

interval_bytes_from : (p o : List ℕ) (R i n : ℕ) → Coalesced eqb (table_rows p o R i n)
    → interval_bytes (at p i) (table_rows p o R i n) ≡ pair_bytes 4 2 p o i n
interval_bytes_from p o R i zero h = refl
interval_bytes_from p o R i (suc zero) h = refl
interval_bytes_from p o R i (suc (suc n)) h =
    let e : at p i + (at p (suc i) - at p i) ≡ at p (suc i) = omega (arith, h.0) in
    ap (λ r. bytes 4 (at p i) ++ bytes 2 (at o i) ++ r)
    (ap (λ x. interval_bytes x (table_rows p o R (suc i) (suc n))) e ∙ interval_bytes_from p o R (suc i) (suc n) h.2)

pub interval_bytes_rows : (p o : List ℕ) (R q : ℕ) → Coalesced eqb (table_rows p o R 0 q) → (1 ≤ q → total (table_rows p o R 0 q) ≡ R)
    → interval_bytes 0 (table_rows p o R 0 q) ≡ pair_bytes 4 2 p o 0 q
interval_bytes_rows p o R zero h t = refl
interval_bytes_rows p o R (suc q) h t =
    let e : at p 0 ≡ 0 = omega (arith, t (omega arith), total_table_rows p o R 0 q h) in
    ap (λ x. interval_bytes x (table_rows p o R 0 (suc q))) (sym e) ∙ interval_bytes_from p o R 0 (suc q) h

pub device_bytes_lists : (ds : List Device) → device_bytes ds ≡ pair_bytes 2 4 (ids ds) (capacities_of ds) 0 (length ds)
device_bytes_lists [] = refl
device_bytes_lists (e ∷ ds) =
    ap (λ r. bytes 2 e.id ++ bytes 4 e.capacity ++ r)
    (device_bytes_lists ds ∙ sym (pair_bytes_cons 2 4 e.id e.capacity (ids ds) (capacities_of ds) 0 (length ds)))

pub interval_bytes_lists : (x : ℕ) (rs : List (Run ℕ)) → interval_bytes x rs ≡ pair_bytes 4 2 (starts_of x rs) (owners_of rs) 0 (length rs)
interval_bytes_lists x [] = refl
interval_bytes_lists x ((n of d) ∷ rs) =
    ap (λ r. bytes 4 x ++ bytes 2 d ++ r)
    (interval_bytes_lists (x + n) rs ∙ sym (pair_bytes_cons 4 2 x d (starts_of (x + n) rs) (owners_of rs) 0 (length rs)))

-- ---- columns of rows, written again

-- two parts of a list that stand side by side
pub joined : {ys zs : List ℕ} (xs : List ℕ) (i m n : ℕ) → ys ≡ take m (drop i xs) → zs ≡ take n (drop (i + m) xs) → ys ++ zs ≡ take (m + n) (drop i xs)
joined xs i m n e f = ap₂ ◌++◌ e (f ∙ ap (take n) (sym (drop-drop m i xs))) ∙ sym (take-add m n (drop i xs))

pub pair_bytes_columns : (xs : List ℕ) (a b i n : ℕ) → a + b ≡ 6 → Bytes xs → i + 6 * n ≤ length xs
    → pair_bytes a b (column xs a i n) (column xs b (i + a) n) 0 n ≡ take (6 * n) (drop i xs)
pair_bytes_columns xs a b i zero s y h = refl
pair_bytes_columns xs a b i (suc n) s y h =
    let e : i + a + 6 ≡ i + 6 + a = omega arith in
    let f : i + 6 ≡ i + (a + b) = omega arith in
    let whole : a + b + 6 * n ≡ 6 * suc n = omega arith in
    joined xs i (a + b) (6 * n)
    (joined xs i a b (bytes_number_at xs i a y (omega arith)) (bytes_number_at xs (i + a) b y (omega arith)))
    (pair_bytes_cons a b (number_at xs i a) (number_at xs (i + a) b) (column xs a (i + 6) n) (column xs b (i + a + 6) n) 0 n
    ∙ ap (λ j. pair_bytes a b (column xs a (i + 6) n) (column xs b j n) 0 n) e
    ∙ pair_bytes_columns xs a b (i + 6) n s y (omega arith) ∙ ap (λ j. take (6 * n) (drop j xs)) f)
    ∙ ap (λ m. take m (drop i xs)) whole

-- ---- columns of rows, read back

module _ (a b : ℕ) (six : a + b ≡ 6) (ps qs : List ℕ) where
  -- one column of the rows, if a number of each row is read at o
  column_pair_bytes : (k o : ℕ) (zs : List ℕ)
      → ((i : ℕ) (front back : List ℕ) → number_at (front ++ bytes a (at ps i) ++ bytes b (at qs i) ++ back) (length front + o) k ≡ at zs i)
      → (front back : List ℕ) (i n : ℕ) → i + n ≤ length zs
      → column (front ++ pair_bytes a b ps qs i n ++ back) k (length front + o) n ≡ take n (drop i zs)
  column_pair_bytes k o zs h front back i zero l = refl
  column_pair_bytes k o zs h front back i (suc n) l =
      ap (λ xs. column xs k (length front + o) (suc n)) shift
      ∙ rw (drop-cons zs i 0 (omega arith), place)
      (ap₂ (λ y ys. y ∷ ys)
      (ap (λ r. number_at r (length front + o) k) (append_assoc next (pair_bytes a b ps qs (suc i) n) back)
      ∙ h i front (pair_bytes a b ps qs (suc i) n ++ back))
      (column_pair_bytes k o zs h next back (suc i) n (omega arith)))
    where
      next : List ℕ
      next = front ++ bytes a (at ps i) ++ bytes b (at qs i)

      shift : front ++ pair_bytes a b ps qs i (suc n) ++ back ≡ next ++ pair_bytes a b ps qs (suc i) n ++ back
      shift = simp append_assoc

      place : length front + o + 6 ≡ length next + o
      place =
          omega (
            arith,
            length-append (front ++ bytes a (at ps i)) (bytes b (at qs i)),
            length-append front (bytes a (at ps i)),
            length_bytes a (at ps i),
            length_bytes b (at qs i),
          )

  pub column_first : ((i : ℕ) → at ps i < 2 ^ (8 * a)) → (front back : List ℕ) (n : ℕ) → length ps ≡ n
      → column (front ++ pair_bytes a b ps qs 0 n ++ back) a (length front) n ≡ ps
  column_first f front back n l =
      ap (λ i. column (front ++ pair_bytes a b ps qs 0 n ++ back) a i n) (sym (add-zero (length front)))
      ∙ column_pair_bytes a 0 ps read front back 0 n (omega arith) ∙ take_all n ps (omega arith)
    where
      read : (i : ℕ) (before after : List ℕ)
          → number_at (before ++ bytes a (at ps i) ++ bytes b (at qs i) ++ after) (length before + 0) a ≡ at ps i
      read i before after =
          rw (append_assoc (before ++ bytes a (at ps i)) (bytes b (at qs i)) after, add-zero (length before))
          (number_at_bytes before (bytes b (at qs i) ++ after) a (at ps i) (f i))

  pub column_second : ((i : ℕ) → at qs i < 2 ^ (8 * b)) → (front back : List ℕ) (n : ℕ) → length qs ≡ n
      → column (front ++ pair_bytes a b ps qs 0 n ++ back) b (length front + a) n ≡ qs
  column_second f front back n l = column_pair_bytes b a qs read front back 0 n (omega arith) ∙ take_all n qs (omega arith)
    where
      read : (i : ℕ) (before after : List ℕ)
          → number_at (before ++ bytes a (at ps i) ++ bytes b (at qs i) ++ after) (length before + a) b ≡ at qs i
      read i before after =
          let e : length before + a ≡ length (before ++ bytes a (at ps i)) =
          omega (arith, length-append before (bytes a (at ps i)), length_bytes a (at ps i)) in
          ap (λ j. number_at (before ++ bytes a (at ps i) ++ bytes b (at qs i) ++ after) j b) e
          ∙ number_at_bytes (before ++ bytes a (at ps i)) after b (at qs i) (f i)
