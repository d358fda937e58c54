-- The devices of an opened pool, in rows, and those after a change.
--
--   Next es d c n     the arrays d and c hold the n devices es
--
-- Open: open_few, open_ascending
-- Next: next_add, next_remove, next_resize
use mathlib.Core.Path.{◌≡◌, sym, ◌∙◌, subst}
use mathlib.Core.Bool.{false, true≢false}
use mathlib.Core.List.{List}
use Prim.Native.Nat.{ℕ, ◌+◌, ◌-◌, ◌≤◌, ◌<◌}
use native.Mathlib.Omega.{arith}
use lib.ListN.{length, set, length-set}
use borrow.Author.Tests.{ltb-false}
use Rattle.slicing.specs.Devices.{Device, device, ids, present, insert, delete, update, Within, Rising}
use Rattle.slicing.specs.Runs.{count}
use Rattle.slicing.proofs.Devices.{present_count, insert_rising, delete_rising, update_rising}
use Rattle.slicing_core.specs.Rows.{at, device_rows}
use Rattle.slicing_core.specs.Stages.{Ascending, Position, Inserted, Deleted}
use Rattle.slicing_core.proofs.DeviceRows.{ascending_rising, position_present, insert_rows, delete_rows, update_rows}
use Rattle.slicing_core.proofs.Rows.{length_device_rows}
use Rattle.opened.specs.OpenPools.{devices_in, Open}
use Rattle.opened.specs.declared.Opened.{Opened}

pub record Next (es : List Device) (d c : List ℕ) (n : ℕ) : Type 0 where
  pub some : 1 ≤ n
  pub most : n ≤ 256
  pub rows : device_rows d c 0 n ≡ es
  pub rising : Rising 0 (device_rows d c 0 n)
  pub ids_size : length d ≡ 256
  pub capacities_size : length c ≡ 256

module _ {o : Opened} {table : List ℕ} (a : Open o table) where
  pub open_few : o.devices ≤ 256
  open_few = omega (arith, a.valid.few, length_device_rows o.ids o.capacities 0 o.devices)

  pub open_ascending : Ascending o.ids o.devices
  open_ascending = ascending_rising o.ids o.capacities o.devices a.valid.rising

  pub next_add : {id capacity row : ℕ} {d c : List ℕ} → Within 0 (device id capacity) → o.devices < 256 → Position o.ids o.devices id row
      → present id (devices_in o) ≡ false → Inserted o.ids o.devices row id d → Inserted o.capacities o.devices row capacity c
      → Next (insert id capacity (devices_in o)) d c (o.devices + 1)
  next_add {id} {capacity} {row} {d} {c} w room q absent x y = record {
    some = omega arith;
    most = omega arith;
    rows = made;
    rising = subst (Rising 0) (sym made) (insert_rising 0 id capacity (devices_in o) a.valid.rising w none);
    ids_size = x.size;
    capacities_size = y.size;
  }
    where
      made : device_rows d c 0 (o.devices + 1) ≡ insert id capacity (devices_in o)
      made = insert_rows q (λ l e. true≢false (sym (position_present o.ids o.capacities o.devices id row l e) ∙ absent)) x y

      none : count id (ids (devices_in o)) ≡ 0
      none = omega (arith, ltb-false 0 (count id (ids (devices_in o))) (sym (present_count id (devices_in o)) ∙ absent))

  pub next_remove : {id row : ℕ} {d c : List ℕ} → 1 < o.devices → (row < o.devices) × (at o.ids row ≡ id) → Deleted o.ids o.devices row d
      → Deleted o.capacities o.devices row c → Next (delete id (devices_in o)) d c (o.devices - 1)
  next_remove {id} {row} {d} {c} more l x y = record {
    some = omega arith;
    most = omega (arith, open_few);
    rows = made;
    rising = subst (Rising 0) (sym made) (delete_rising 0 id (devices_in o) a.valid.rising);
    ids_size = x.size;
    capacities_size = y.size;
  }
    where
      made : device_rows d c 0 (o.devices - 1) ≡ delete id (devices_in o)
      made = delete_rows l.0 l.1 open_ascending x y

  pub next_resize : {id capacity row : ℕ} → Within 0 (device id capacity) → (row < o.devices) × (at o.ids row ≡ id)
      → Next (update id capacity (devices_in o)) o.ids (set o.capacities row capacity) o.devices
  next_resize {id} {capacity} {row} w l = record {
    some = omega (arith, l.0);
    most = open_few;
    rows = made;
    rising = subst (Rising 0) (sym made) (update_rising 0 id capacity (devices_in o) a.valid.rising w.some w.most);
    ids_size = a.ids_size;
    capacities_size = length-set o.capacities row capacity ∙ a.capacities_size;
  }
    where
      made : device_rows o.ids (set o.capacities row capacity) 0 o.devices ≡ update id capacity (devices_in o)
      made = update_rows o.ids o.capacities capacity l.0 l.1 open_ascending (omega (arith, a.capacities_size, open_few, l.0))
