-- Points given one by one, on rows of devices.
--
-- lead: lead_rows (the row ahead of all others is the rules' lead); raise: raise_rows; give: give_rows (a point more is a store)
-- Dealt: dealt_start, dealt_give, dealt_ready, dealt_shares (by start_rows, relabel_rows)
use mathlib.Core.Path.{◌≡◌, refl, sym, ap, ap₂, ◌∙◌}
use mathlib.Core.Bool.{true, false, cond}
use mathlib.Core.List.{List, ◌∷◌, map}
use mathlib.Core.Logic.{◌⊎◌, inl, inr}
use Prim.Native.Nat.{ℕ, zero, suc, ◌+◌, ◌*◌, ◌-◌, ◌/◌, ◌≤◌, ◌<◌}
use native.Mathlib.Decide.{ℕ_discrete, dec_lt}
use native.Mathlib.Nat.{eq-or-lt_of_le, eq-zero-or-pos}
use native.Mathlib.Omega.{arith}
use lib.Dec.{eqb}
use lib.ListN.{length, set, length-set}
use lib.Seq.{get_or-set_same, get_or-set_other}
use borrow.Author.Tests.{eq-eqb, ne_eqb}
use Rattle.slicing.specs.Devices.{Device, device, capacities, Rising}
use Rattle.slicing.specs.Dues.{floors}
use Rattle.slicing.specs.GreatestDivisors.{before, greatest_divisors}
use Rattle.slicing.specs.Limits.{max_range}
use Rattle.slicing.specs.LowerQuota.{start, next, lead, holder, raise, give, give_all, lower_quota}
use Rattle.slicing.specs.Runs.{Run, ◌of◌, one, relabel}
use Rattle.slicing.proofs.Lex.{lex_not, lex_false}
use Rattle.slicing.proofs.LowerQuota.{lower_quota_greatest_divisors}
use Rattle.slicing.proofs.Quotients.{before_total}
use Rattle.slicing_core.specs.Rows.{at, rows, device_rows}
use Rattle.slicing_core.specs.Stages.{Ascending}
use Rattle.slicing_core.proofs.DeviceRows.{within_rising, ascending_rising}
use Rattle.slicing_core.proofs.Rows.{length_device_rows}
use Rattle.shares.specs.Dues.{Floored}
use Rattle.shares.specs.GreatestDivisors.{point_rows, Dealt}
use Rattle.shares.specs.Tournament.{Ahead, Ready}
use Rattle.shares.proofs.DeviceDues.{floor_one}

-- ---- a point more for the row that is ahead of all others

module _ (p ids caps : List ℕ) (n w : ℕ) (asc : Ascending ids n) (l : w < n) (h : (i : ℕ) → i < n → Ahead p caps w i) where
  abbrev row : ℕ → Run Device
  row k = at p k of device (at ids k) (at caps k)

  not_before : (i : ℕ) → i < n → before (next (row i)) (next (row w)) ≡ false
  not_before i b =
      let k = lex_false (at caps i * suc (at p w)) i (at caps w * suc (at p i)) w (h i b) in
      lex_not (at caps i * suc (at p w)) (at ids i) (at caps w * suc (at p i)) (at ids w) k.0
      (λ e. elim (eq-or-lt_of_le (k.1 e)) [ inl z ↦ rw z (omega arith) | inr z ↦ omega (arith, asc w i z b) ])

  goes_before : (i : ℕ) → i < w → before (next (row w)) (next (row i)) ≡ true
  goes_before i b =
      before_total (device (at ids w) (at caps w)) (device (at ids i) (at caps i)) (suc (at p w)) (suc (at p i))
      (λ e. omega (arith, asc i w b l)) (not_before i (omega arith))

  -- row b leads so far: it is w, or w is still to come
  lead_rows : (b i m : ℕ) → i + m ≡ n → b < i → (b ≡ w) ⊎ (i ≤ w) → lead (row b) (point_rows p ids caps i m) ≡ row w
  lead_rows b i zero e s (inl z) = ap row z
  lead_rows b i zero e s (inr z) = absurd (omega arith)
  lead_rows b i (suc m) e s (inl z) =
      ap (λ t. lead (cond t (row i) (row b)) (point_rows p ids caps (suc i) m))
      (ap (λ k. before (next (row i)) (next (row k))) z ∙ not_before i (omega arith))
      ∙ lead_rows b (suc i) m (omega arith) (omega arith) (inl z)
  lead_rows b i (suc m) e s (inr z) =
      elim (eq-or-lt_of_le z) [
        | inl y ↦
            ap (λ t. lead (cond t (row i) (row b)) (point_rows p ids caps (suc i) m))
            (ap (λ k. before (next (row k)) (next (row b))) y ∙ goes_before b (omega arith))
            ∙ lead_rows i (suc i) m (omega arith) (omega arith) (inl y)
        | inr y ↦
            elim (before (next (row i)) (next (row b))) as (λ t. lead (cond t (row i) (row b)) (point_rows p ids caps (suc i) m) ≡ row w) [
              | true ↦ lead_rows i (suc i) m (omega arith) (omega arith) (inr y)
              | false ↦ lead_rows b (suc i) m (omega arith) (omega arith) (inr y)
            ]
      ]

  raised : w < length p → (i : ℕ) → i < n → at p i + one (eqb (at ids w) (at ids i)) ≡ at (set p w (at p w + 1)) i
  raised z i s =
      elim (ℕ_discrete i w) [
        | yes e ↦ rw (e, eq-eqb (at ids w) (at ids w) refl, get_or-set_same p w (at p w + 1) 0 z)
        | no d ↦
            let f : at ids w ≡ at ids i → ⊥ =
            λ e. elim (dec_lt i w) [ yes x ↦ omega (arith, asc i w x l) | no x ↦ omega (arith, asc w i (omega (arith, d, x)) s) ] in
            rw (ne_eqb (at ids w) (at ids i) f, get_or-set_other p w i (at p w + 1) 0 d) (omega arith)
      ]

  raise_rows : w < length p → (i m : ℕ) → i + m ≡ n
      → map (raise (at ids w)) (point_rows p ids caps i m) ≡ point_rows (set p w (at p w + 1)) ids caps i m
  raise_rows z i zero e = refl
  raise_rows z i (suc m) e =
      ap₂ (λ s r. (s of device (at ids i) (at caps i)) ∷ r) (raised z i (omega arith)) (raise_rows z (suc i) m (omega arith))

  give_rows : w < length p → (m : ℕ) → m ≡ n → give (point_rows p ids caps 0 m) ≡ point_rows (set p w (at p w + 1)) ids caps 0 m
  give_rows z zero e = absurd (omega arith)
  give_rows z (suc m) e =
      let q : (0 ≡ w) ⊎ (1 ≤ w) = elim (eq-zero-or-pos w) [ inl x ↦ inl (sym x) | inr x ↦ inr x ] in
      ap (λ x. map (raise (holder x).id) (point_rows p ids caps 0 (suc m))) (lead_rows 0 1 m (omega arith) (omega arith) q)
      ∙ raise_rows z 0 (suc m) (omega arith)

-- ---- the points dealt

start_rows : (R C : ℕ) (p ids caps : List ℕ) (i m : ℕ) → ((k : ℕ) → k < i + m → at p k ≡ R * at caps k / C)
    → point_rows p ids caps i m ≡ start R C (device_rows ids caps i m)
start_rows R C p ids caps i zero h = refl
start_rows R C p ids caps i (suc m) h = rw (h i (omega arith), start_rows R C p ids caps (suc i) m (λ k l. h k (omega arith)))

relabel_rows : (p ids caps : List ℕ) (i m : ℕ) → relabel (λ e. e.id) (point_rows p ids caps i m) ≡ rows p ids i m
relabel_rows p ids caps i zero = refl
relabel_rows p ids caps i (suc m) = ap (λ r. (at p i of at ids i) ∷ r) (relabel_rows p ids caps (suc i) m)

module _ {R n left : ℕ} {ids caps p : List ℕ} where
  pub dealt_start : {C : ℕ} → C ≡ capacities (device_rows ids caps 0 n) → Floored R ids caps n C p left → Dealt R ids caps n p left
  dealt_start {C} e f =
      let k : left ≡ R - floors R C (device_rows ids caps 0 n) = omega (arith, f.rest) in
      record {
        size = f.size;
        most = λ i l. omega (arith, f.floored i l, f.rest, floor_one R C ids caps 0 n i (omega arith) (omega arith));
        rest = rw (← e, ← k, start_rows R C p ids caps 0 n (λ j m. f.floored j (omega arith)));
      }

  module _ (r : Rising 0 (device_rows ids caps 0 n)) (d : Dealt R ids caps n p left) where
    pub dealt_give : {w rest : ℕ} → n ≤ 256 → left ≡ suc rest → w < n → ((i : ℕ) → i < n → Ahead p caps w i)
        → Dealt R ids caps n (set p w (at p w + 1)) rest
    dealt_give {w} {rest} b e s h =
        let z : w < length p = omega (arith, d.size) in
        record {
          size = length-set p w (at p w + 1) ∙ d.size;
          most = λ i m. elim (ℕ_discrete i w) [
            | yes x ↦ rw x (omega (arith, get_or-set_same p w (at p w + 1) 0 z, d.most w s))
            | no x ↦ omega (arith, get_or-set_other p w i (at p w + 1) 0 x, d.most i m)
          ];
          rest = ap (give_all rest) (sym (give_rows p ids caps n w (ascending_rising ids caps n r) s h z n refl)) ∙ rw e at d.rest;
        }

    pub dealt_ready : R ≤ max_range → 1 ≤ n → n ≤ 256 → Ready p caps n
    dealt_ready k a b = record {
      some = a;
      most = b;
      small = λ i l.
          let v = within_rising ids caps n r i l in
          record { place = omega arith; least = v.some; most = v.most; points = omega (arith, d.most i l) };
    }

    pub dealt_shares : 1 ≤ n → left ≡ 0 → rows p ids 0 n ≡ greatest_divisors R (device_rows ids caps 0 n)
    unfolding lower_quota
    dealt_shares l e =
        sym (relabel_rows p ids caps 0 n) ∙ ap (relabel (λ e. e.id)) (rw e at d.rest)
        ∙ lower_quota_greatest_divisors R (device_rows ids caps 0 n) r (omega (arith, length_device_rows ids caps 0 n))
