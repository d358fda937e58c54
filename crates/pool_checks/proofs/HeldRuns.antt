-- Laws of what each row has of runs: what the loop of `held` needs.
--
--   Summed table has i        the points of the first i runs stand by row in `has`
--
-- Summed: summed_none, summed_total (no sum is above all points), summed_more
use mathlib.Core.Path.{◌≡◌, refl, ap, ◌∙◌}
use mathlib.Core.Bool.{Bool, true, false}
use mathlib.Core.List.{List}
use Prim.Native.Nat.{ℕ, ◌+◌, ◌*◌, ◌/◌, ◌%◌, ◌≤◌, ◌<◌}
use native.Mathlib.Nat.{zero-add}
use native.Mathlib.Omega.{arith}
use lib.Dec.{eqb}
use lib.ListN.{length, set, replicate, length-set, length-replicate}
use lib.Seq.{get_or-set_same, get_or-set_other}
use borrow.Author.Tests.{eqb-true, eqb-false}
use Rattle.slicing.specs.Runs.{one, total, owned}
use Rattle.slicing.proofs.Runs.{owned_append}
use Rattle.slicing_core.specs.Rows.{at}
use Rattle.slicing_core.proofs.OwnerRows.{owned_le}
use Rattle.slicing_core.proofs.Rows.{at_zeros}
use Rattle.packed_runs.specs.Words.{runs}
use Rattle.packed_runs.proofs.Words.{runs_snoc}
use Rattle.pools.proofs.ClosedPools.{total_runs_le}

pub record Summed (table has : List ℕ) (i : ℕ) : Type 0 where
  pub size : length has ≡ 256
  pub sums : (d : ℕ) → d < 256 → at has d ≡ owned d (runs table 0 i)

pub summed_none : (table : List ℕ) → Summed table (replicate 256 0) 0
summed_none table = record { size = length-replicate {A = ℕ} 256 0; sums = λ d l. at_zeros 256 d }

module _ {table has : List ℕ} {i : ℕ} (s : Summed table has i) (b : at table i % 65536 < 256) where
  pub summed_total : (q : ℕ) → i < q → at has (at table i % 65536) + at table i / 65536 ≤ total (runs table 0 q)
  summed_total q h =
      let row = at table i % 65536 in
      omega (arith, s.sums row b, owned_le row (runs table 0 i), total_runs_le table i q h)

  sum_more : (d : ℕ) → d < 256
      → at (set has (at table i % 65536) (at has (at table i % 65536) + at table i / 65536)) d ≡ owned d (runs table 0 (i + 1))
  sum_more d l = rw (runs_snoc, zero-add, owned_append) (go (eqb d (at table i % 65536)) refl)
    where
      row : ℕ
      row = at table i % 65536

      v : ℕ
      v = at has (at table i % 65536) + at table i / 65536

      go : (t : Bool) → eqb d (at table i % 65536) ≡ t
          → at (set has (at table i % 65536) (at has (at table i % 65536) + at table i / 65536)) d
          ≡ owned d (runs table 0 i) + (one t * (at table i / 65536) + 0)
      go true e =
          let z : d ≡ at table i % 65536 = eqb-true d (at table i % 65536) e in
          ap (at (set has row v)) z ∙ get_or-set_same has row v 0 (omega (arith, s.size)) ∙ omega (arith, s.sums d l, ap (at has) z)
      go false e = get_or-set_other has row d v 0 (eqb-false d row e) ∙ omega (arith, s.sums d l)

  pub summed_more : Summed table (set has (at table i % 65536) (at has (at table i % 65536) + at table i / 65536)) (i + 1)
  summed_more =
      record {
        size = length-set has (at table i % 65536) (at has (at table i % 65536) + at table i / 65536) ∙ s.size;
        sums = sum_more;
      }
