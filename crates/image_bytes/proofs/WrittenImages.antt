-- What `put_image` needs: a pool's image from its arrays, and the parts of a buffer.
--
-- image_of_pool, image_size, image_put
use mathlib.Core.Path.{◌≡◌, refl, ◌∙◌}
use mathlib.Core.List.{List, ◌++◌}
use Prim.Native.Nat.{ℕ, ◌+◌, ◌*◌, ◌-◌}
use native.Mathlib.Omega.{arith}
use lib.ListN.{length, take, drop, length-append}
use Rattle.pools.specs.Pools.{state_of, ValidPool}
use Rattle.pools.specs.declared.Pool.{Pool}
use Rattle.pools.proofs.PoolLaws.{length_table_rows}
use Rattle.pools.proofs.ValidParts.{valid_coalesced, valid_covers}
use Rattle.slicing_core.proofs.Fronts.{part_put}
use Rattle.slicing_core.proofs.Rows.{length_device_rows}
use Rattle.image_numbers.specs.Format.{head_size, head, image_of}
use Rattle.image_bytes.specs.RowBytes.{pair_bytes}
use Rattle.image_bytes.proofs.RowFronts.{length_pair_bytes}
use Rattle.image_bytes.proofs.ImageRows.{device_bytes_rows, interval_bytes_rows}
use Rattle.image_numbers.proofs.ImageSizes.{length_head, length_image_of}

module _ (p : Pool) (v : ValidPool p) where
  abbrev n : ℕ
  n = p.devices

  abbrev q : ℕ
  q = p.intervals

  pub image_of_pool : image_of (state_of p)
      ≡ head p.range p.limit n q ++ pair_bytes 2 4 p.ids p.capacities 0 n ++ pair_bytes 4 2 p.starts p.owners 0 q
  unfolding image_of state_of
  image_of_pool =
      rw (
        length_device_rows p.ids p.capacities 0 n,
        length_table_rows p.starts p.owners p.range 0 q,
        device_bytes_rows p.ids p.capacities 0 n,
        interval_bytes_rows p.starts p.owners p.range q (valid_coalesced p v) (valid_covers p v),
      )

  pub image_size : length (image_of (state_of p)) ≡ head_size + 6 * n + 6 * q
  unfolding state_of
  image_size =
      omega (
        arith,
        length_image_of (state_of p),
        length_device_rows p.ids p.capacities 0 n,
        length_table_rows p.starts p.owners p.range 0 q,
      )

  -- the head, and the rows in what is left behind it
  pub image_put : (b0 b1 d i : List ℕ) → b1 ≡ head p.range p.limit n q ++ drop head_size b0
      → d ≡ pair_bytes 2 4 p.ids p.capacities 0 n ++ drop (6 * n) (take (length b1 - head_size) (drop head_size b1))
      → let b2 = take head_size b1 ++ (d ++ drop (length b1 - head_size) (drop head_size b1)) in
      let end = head_size + 6 * n in
      i ≡ pair_bytes 4 2 p.starts p.owners 0 q ++ drop (6 * q) (take (length b2 - end) (drop end b2))
      → take end b2 ++ (i ++ drop (length b2 - end) (drop end b2)) ≡ image_of (state_of p) ++ drop (length (image_of (state_of p))) b0
  image_put b0 b1 d i e f g =
      let first : List ℕ = head p.range p.limit n q in
      let second : List ℕ = pair_bytes 2 4 p.ids p.capacities 0 n in
      let third : List ℕ = pair_bytes 4 2 p.starts p.owners 0 q in
      let b2 : List ℕ = take head_size b1 ++ (d ++ drop (length b1 - head_size) (drop head_size b1)) in
      let l : length (first ++ second) ≡ head_size + 6 * n =
      omega (arith, length-append first second, length_head p.range p.limit n q, length_pair_bytes 2 4 p.ids p.capacities 0 n refl) in
      let h = part_put b0 first second b1 d head_size (6 * n) (length_head p.range p.limit n q) e f in
      part_put b0 (first ++ second) third b2 i (head_size + 6 * n) (6 * q) l h g
      ∙ rw (image_size, image_of_pool)
