-- The rows of a table, printed one behind the other.
--
--   end_of p R q i           where interval i ends
--   rising                  a start is below R
--   row_fits                a start is at most its end, and that at most R
--   printed_to p o R q i     the first i rows, printed; printed_to_none, printed_to_more, printed_to_all
--   Printed                 the first i rows are written; printed_none, printed_room, printed_more, printed_all
use mathlib.Core.Path.{◌≡◌, refl, sym, ap, ◌∙◌, subst}
use mathlib.Core.Bool.{cond}
use mathlib.Core.List.{List, [], ◌∷◌, ◌++◌, append_assoc, append-nil}
use Prim.Native.Nat.{ℕ, zero, suc, ◌+◌, ◌*◌, ◌-◌, ◌^◌, ◌≤◌, ◌<◌}
use native.Mathlib.Omega.{arith}
use native.Mathlib.Nat.{add-zero, zero-add}
use native.Mathlib.Numerals.{add-one}
use lib.Dec.{eqb, ltb}
use lib.ListN.{length, get_or, take, length-append}
use lib.Seq.{take-suc, take_all}
use borrow.Author.Tests.{lt-ltb, le-ltb}
use Rattle.slicing.specs.Runs.{Interval, Coalesced}
use Rattle.slicing_core.specs.Rows.{at, table_rows, interval_rows}
use Rattle.history_printing.specs.Printing.{fields, printed_rows}
use Rattle.history_printing.proofs.Decimals.{length_fields3}
use Rattle.history_printing.proofs.PutBehind.{Put, Written, put_none, put_behind, put_same, put_room}

-- ---- where an interval ends

abbrev pub end_of : List ℕ → ℕ → ℕ → ℕ → ℕ
end_of p R q i = cond (ltb (i + 1) q) (at p (i + 1)) R

end_of_last : (p : List ℕ) (R q i : ℕ) → q ≤ i + 1 → end_of p R q i ≡ R
end_of_last p R q i h = ap (λ t. cond t (at p (i + 1)) R) (le-ltb (i + 1) q h)

end_of_next : (p : List ℕ) (R q i : ℕ) → i + 1 < q → end_of p R q i ≡ at p (suc i)
end_of_next p R q i h = ap (λ t. cond t (at p (i + 1)) R) (lt-ltb (i + 1) q h) ∙ ap (at p) (add-one i)

pub rising : (p o : List ℕ) (R i n : ℕ) → Coalesced eqb (table_rows p o R i (suc n)) → at p i < R
rising p o R i zero h = omega (arith, h.0)
rising p o R i (suc n) h = omega (arith, h.0, rising p o R (suc i) n h.2)

row_from : (p o : List ℕ) (R i n k q : ℕ) → i + n ≡ q → k < n → Coalesced eqb (table_rows p o R i n)
    → (at p (i + k) ≤ end_of p R q (i + k)) × (end_of p R q (i + k) ≤ R)
row_from p o R i zero k q e l h = (omega arith, omega arith)
row_from p o R i (suc zero) zero q e l h =
    rw (add-zero i) (omega (arith, end_of_last p R q i (omega arith), h.0), omega (arith, end_of_last p R q i (omega arith)))
row_from p o R i (suc zero) (suc k) q e l h = (omega arith, omega arith)
row_from p o R i (suc (suc n)) zero q e l h =
    let f = end_of_next p R q i (omega arith) in
    rw (add-zero i) (omega (arith, f, h.0), omega (arith, f, rising p o R (suc i) n h.2))
row_from p o R i (suc (suc n)) (suc k) q e l h =
    let f : suc i + k ≡ i + suc k = omega arith in
    subst (λ j. (at p j ≤ end_of p R q j) × (end_of p R q j ≤ R)) f (row_from p o R (suc i) (suc n) k q (omega arith) (omega arith) h.2)

pub row_fits : (p o : List ℕ) (R q i : ℕ) → i < q → Coalesced eqb (table_rows p o R 0 q) → (at p i ≤ end_of p R q i) × (end_of p R q i ≤ R)
row_fits p o R q i l h =
    subst (λ j. (at p j ≤ end_of p R q j) × (end_of p R q j ≤ R)) (zero-add i) (row_from p o R 0 q i q (zero-add q) l h)

-- ---- rows

abbrev row_to : List ℕ → List ℕ → ℕ → ℕ → Interval
row_to p o i e = record { start = at p i; size = e - at p i; owner = at o i }

length_interval_rows : (p o : List ℕ) (R i n : ℕ) → length (interval_rows p o R i n) ≡ n
length_interval_rows p o R i zero = refl
length_interval_rows p o R i (suc zero) = refl
length_interval_rows p o R i (suc (suc n)) = ap suc (length_interval_rows p o R (suc i) (suc n))

interval_rows_at : (p o : List ℕ) (R i n k q : ℕ) (d : Interval) → i + n ≡ q → k < n
    → get_or (interval_rows p o R i n) k d ≡ row_to p o (i + k) (end_of p R q (i + k))
interval_rows_at p o R i zero k q d e l = absurd (omega arith)
interval_rows_at p o R i (suc zero) zero q d e l = rw (add-zero i) (ap (row_to p o i) (sym (end_of_last p R q i (omega arith))))
interval_rows_at p o R i (suc zero) (suc k) q d e l = absurd (omega arith)
interval_rows_at p o R i (suc (suc n)) zero q d e l = rw (add-zero i) (ap (row_to p o i) (sym (end_of_next p R q i (omega arith))))
interval_rows_at p o R i (suc (suc n)) (suc k) q d e l =
    let f : suc i + k ≡ i + suc k = omega arith in
    interval_rows_at p o R (suc i) (suc n) k q d (omega arith) (omega arith) ∙ ap (λ j. row_to p o j (end_of p R q j)) f

printed_rows_append : (is js : List Interval) → printed_rows (is ++ js) ≡ printed_rows is ++ printed_rows js
printed_rows_append [] js = refl
printed_rows_append (i ∷ is) js =
    let f : List ℕ = fields (i.start ∷ i.size ∷ i.owner ∷ []) in
    ap (λ r. f ++ r) (printed_rows_append is js) ∙ sym (append_assoc f (printed_rows is) (printed_rows js))

-- ---- the first i of them

unfoldable pub printed_to : List ℕ → List ℕ → ℕ → ℕ → ℕ → List ℕ
printed_to p o R q i = printed_rows (take i (interval_rows p o R 0 q))

pub printed_to_none : (p o : List ℕ) (R q : ℕ) → printed_to p o R q 0 ≡ []
unfolding printed_to
printed_to_none p o R q = refl

pub printed_to_all : (p o : List ℕ) (R q : ℕ) → printed_to p o R q q ≡ printed_rows (interval_rows p o R 0 q)
unfolding printed_to
printed_to_all p o R q = ap printed_rows (take_all q (interval_rows p o R 0 q) (omega (arith, length_interval_rows p o R 0 q)))

pub printed_to_more : (p o : List ℕ) (R q i : ℕ) → i < q
    → printed_to p o R q (i + 1) ≡ printed_to p o R q i ++ fields (at p i ∷ (end_of p R q i - at p i) ∷ at o i ∷ [])
unfolding printed_to
printed_to_more p o R q i h =
    ap (λ k. printed_rows (take k all)) (add-one i)
    ∙ ap printed_rows (take-suc all i none (omega (arith, length_interval_rows p o R 0 q)))
    ∙ ap (λ r. printed_rows (take i all ++ r ∷ [])) each
    ∙ printed_rows_append (take i all) (row_to p o i (end_of p R q i) ∷ [])
    ∙ ap (λ r. printed_rows (take i all) ++ r) (append-nil (fields (at p i ∷ (end_of p R q i - at p i) ∷ at o i ∷ [])))
  where
    all : List Interval
    all = interval_rows p o R 0 q

    none : Interval
    none = record { start = 0; size = 0; owner = 0 }

    each : get_or all i none ≡ row_to p o i (end_of p R q i)
    each = interval_rows_at p o R 0 q i q none (zero-add q) h ∙ ap (λ j. row_to p o j (end_of p R q j)) (zero-add i)

-- ---- the loop that writes them

pub record Printed (p o : List ℕ) (R q place : ℕ) (before after : List ℕ) (last i : ℕ) : Type 0 where
  pub most : i ≤ q
  pub room : length after ≡ length before
  pub few : length (printed_to p o R q i) ≤ 33 * i
  pub behind : last ≡ place + length (printed_to p o R q i)
  pub put : Put before place (printed_to p o R q i) after

pub printed_none : (p o : List ℕ) (R q place : ℕ) (before : List ℕ) → Printed p o R q place before before place 0
printed_none p o R q place before =
    let e = printed_to_none p o R q in
    record {
      most = omega arith;
      room = refl;
      few = omega (arith, ap length e);
      behind = omega (arith, ap length e);
      put = put_same before before [] (printed_to p o R q 0) place (sym e) (put_none before place);
    }

pub printed_all : (p o : List ℕ) (R q place : ℕ) (before after : List ℕ) (last i : ℕ) → q ≤ i → Printed p o R q place before after last i
    → Written before place (printed_rows (interval_rows p o R 0 q)) after last
printed_all p o R q place before after last i h r =
    let e : i ≡ q = omega (arith, r.most) in
    subst (λ xs. Written before place xs after last) (ap (printed_to p o R q) e ∙ printed_to_all p o R q) (r.behind, r.put)

-- one row more: start s, end e and owner w, written at the place last
module _ (p o : List ℕ) (R q place : ℕ) (before after : List ℕ) (last i s e w : ℕ) (h : Coalesced eqb (table_rows p o R 0 q)) (m : R ≤ 2 ^ 32)
    (l : i < q) (fits : place + 33 * q ≤ length before) (es : s ≡ at p i) (ee : e ≡ end_of p R q i) (ew : w ≡ at o i) (b : w < 65536)
    (r : Printed p o R q place before after last i) where
  length_row : length (fields (s ∷ (e - s) ∷ w ∷ [])) ≤ 33
  length_row =
      let f = row_fits p o R q i l h in
      length_fields3 s (e - s) w (omega (arith, f.0, f.1)) (omega (arith, f.0, f.1)) (omega arith)

  pub printed_room : last + length (fields (s ∷ (e - s) ∷ w ∷ [])) ≤ length after
  printed_room = omega (arith, length_row, r.few, r.behind, r.room)

  pub printed_more : (after' : List ℕ) (last' : ℕ) → Written after last (fields (s ∷ (e - s) ∷ w ∷ [])) after' last'
      → Printed p o R q place before after' last' (i + 1)
  printed_more after' last' v =
      let row : List ℕ = fields (s ∷ (e - s) ∷ w ∷ []) in
      let done : List ℕ = printed_to p o R q i in
      let same : row ≡ fields (at p i ∷ (end_of p R q i - at p i) ∷ at o i ∷ []) = rw (es, ee, ew) in
      let more : done ++ row ≡ printed_to p o R q (i + 1) = ap (λ xs. done ++ xs) same ∙ sym (printed_to_more p o R q i l) in
      let size : length (printed_to p o R q (i + 1)) ≡ length done + length row = sym (ap length more) ∙ length-append done row in
      record {
        most = omega arith;
        room = put_room after after' row last printed_room v.1 ∙ r.room;
        few = omega (arith, size, length_row, r.few);
        behind = omega (arith, size, r.behind, v.0);
        put =
            put_same before after' (done ++ row) (printed_to p o R q (i + 1)) place more
            (put_behind before after after' done row place last (omega arith) r.behind r.put v.1);
      }
