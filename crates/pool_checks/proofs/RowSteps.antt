-- Laws of the loop of `rows_of`, which goes over the intervals: starts p, owners o, the last ending at R.
--
--   left p o R q i                       the intervals from i on, of q
--   Rowing p o q R ids n table i         of q intervals, the first i stand in `table` as runs of rows
--
-- left: left_end, left_next, left_last (the first of those left)
-- Rowing: rowing_step; at an interval that cannot stand there: rowing_short (it has no length), rowing_unknown (no owner)
-- RowsOf: rows_first (all stand there; the first begins at 0 or not)
use mathlib.Core.Path.{◌≡◌, refl, sym, ◌∙◌}
use mathlib.Core.Bool.{Bool, true, false, true≢false}
use mathlib.Core.List.{List, [], ◌∷◌, ◌++◌, append-nil}
use Prim.Native.Nat.{ℕ, zero, suc, ◌+◌, ◌-◌, ◌*◌, ◌%◌, ◌≤◌, ◌<◌}
use native.Mathlib.Omega.{arith}
use native.Mathlib.Numerals.{add-one}
use lib.Dec.{eqb}
use lib.ListN.{length, set, length-set}
use lib.Seq.{append_snoc}
use borrow.Author.Tests.{eqb-true, eqb-false, eq-eqb}
use Rattle.slicing.specs.Devices.{present}
use Rattle.slicing.specs.Runs.{Run, ◌of◌, total, owned, relabel, Coalesced}
use Rattle.slicing.proofs.Runs.{owned_append, relabel_append}
use Rattle.slicing_core.specs.Rows.{at, device_rows, table_rows}
use Rattle.packed_runs.specs.Words.{runs, room, Labelled}
use Rattle.packed_runs.proofs.Words.{word_size, word_label, runs_write, labelled_put}
use Rattle.pools.proofs.PoolLaws.{total_table_rows}
use Rattle.pool_checks.specs.Tables.{LengthAt, NotRowed, RowsOf}

abbrev pub left : List ℕ → List ℕ → ℕ → ℕ → ℕ → List (Run ℕ)
left p o R q i = table_rows p o R i (q - i)

left_end : (p o : List ℕ) (R q i : ℕ) → q ≤ i → left p o R q i ≡ []
left_end p o R q i h = let e : q - i ≡ 0 = omega arith in rw e

module _ (p o : List ℕ) (R q i : ℕ) where
  pub left_next : i + 1 < q → left p o R q i ≡ (at p (i + 1) - at p i of at o i) ∷ left p o R q (i + 1)
  left_next h =
      let e : q - i ≡ suc (suc (q - (i + 2))) = omega arith in
      let f : q - (i + 1) ≡ suc (q - (i + 2)) = omega arith in
      rw (e, f, add-one i)

  pub left_last : i + 1 ≡ q → left p o R q i ≡ (R - at p i of at o i) ∷ left p o R q (i + 1)
  left_last h =
      let e : q - i ≡ 1 = omega arith in
      let f : q - (i + 1) ≡ 0 = omega arith in
      rw (e, f)

-- ---- the loop

pub record Rowing (p o : List ℕ) (q R : ℕ) (ids : List ℕ) (n : ℕ) (table : List ℕ) (i : ℕ) : Type 0 where
  pub size : length table ≡ room
  pub labels : Labelled n table i
  pub written : relabel (at ids) (runs table 0 i) ++ left p o R q i ≡ table_rows p o R 0 q
  -- the intervals are coalesced where those left are
  pub up : Coalesced eqb (left p o R q i) → Coalesced eqb (table_rows p o R 0 q)
  pub down : Coalesced eqb (table_rows p o R 0 q) → Coalesced eqb (left p o R q i)

covers_from : (p o : List ℕ) (R q : ℕ) → 1 ≤ q → Coalesced eqb (table_rows p o R 0 q) → at p 0 + total (table_rows p o R 0 q) ≡ R
covers_from p o R zero h c = absurd (omega arith)
covers_from p o R (suc q) h c = total_table_rows p o R 0 q c

module _ {p o : List ℕ} {q R : ℕ} {ids : List ℕ} {n : ℕ} {table : List ℕ} {i : ℕ} (d : Rowing p o q R ids n table i) where
  module _ (h : i < q) {r : ℕ} (l : LengthAt p o q R i r) where
    pub rowing_short : r ≡ 0 → NotRowed p o q R ids n
    rowing_short e capacities c t k = l.none e (d.down c)

    module _ (some : (r ≡ 0) → ⊥) where
      has_some : 1 ≤ r
      has_some = omega (arith, some)

      -- the owner of interval i has its points
      owner_owned : 1 ≤ owned (at o i) (table_rows p o R 0 q)
      owner_owned =
          rw (← d.written, owned_append, l.some has_some, eq-eqb (at o i) (at o i) refl) (omega (arith, has_some))

      pub rowing_unknown : ((c : List ℕ) → false ≡ present (at o i) (device_rows ids c 0 n)) → NotRowed p o q R ids n
      rowing_unknown f capacities c t k = true≢false (sym (k (at o i) owner_owned) ∙ sym (f capacities))

      pub rowing_step : (row : ℕ) → row < n → n ≤ 256 → q ≤ 4096 → at ids row ≡ at o i → Rowing p o q R ids n (set table i (r * 65536 + row)) (i + 1)
      rowing_step row b m few e =
          let v : ℕ = r * 65536 + row in
          let here : i < length table = omega (arith, d.size) in
          let label : v % 65536 ≡ row = word_label r row (omega arith) in
          record {
            size = length-set table i v ∙ d.size;
            labels = labelled_put n table i v here (omega arith) d.labels;
            written =
                rw (
                  runs_write table i v here,
                  relabel_append,
                  word_size r row (omega arith),
                  label,
                  e,
                  append_snoc,
                  ← l.some has_some,
                ) d.written;
            up = λ c. d.up (rw (l.some has_some) (has_some, l.parted has_some, c));
            down = λ c. (rw (l.some has_some) at (d.down c)).2;
          }

  module _ (e : i ≡ q) where
    all_rows : relabel (at ids) (runs table 0 q) ≡ table_rows p o R 0 q
    all_rows =
        rw (e, left_end p o R q q (omega arith), append-nil) at d.written

    all_coalesced : Coalesced eqb (table_rows p o R 0 q)
    all_coalesced = d.up (rw (left_end p o R q i (omega arith)) tt)

    -- some interval, the first of which begins at 0 or not
    pub rows_first : (q ≡ 0 → ⊥) → (b : Bool) → eqb (at p 0) 0 ≡ b → RowsOf p o q R ids n table b
    rows_first some true z =
        record {
          same = all_rows;
          labels = λ k m. d.labels k (omega arith);
          coalesced = all_coalesced;
          covers = omega (arith, covers_from p o R q (omega (arith, some)) all_coalesced, eqb-true (at p 0) 0 z);
        }
    rows_first some false z = λ capacities c t k. eqb-false (at p 0) 0 z (omega (arith, covers_from p o R q (omega (arith, some)) c, t))
