-- Laws of the opened pool that gets its only device.
--
--   only o id capacity      the pool o with that device alone, which has the whole range
--   only_table o next        its table, in the array next
--
-- Accepted: accepted_only
use mathlib.Core.Path.{◌≡◌, refl, sym, ◌∙◌, subst}
use mathlib.Core.List.{List, [], ◌∷◌}
use Prim.Native.Nat.{ℕ, ◌*◌, ◌/◌, ◌%◌, ◌≤◌}
use native.Mathlib.Omega.{arith}
use lib.ListN.{length, set, length-set}
use lib.Seq.{get_or-set_same}
use Rattle.slicing.specs.Changes.{State, fresh, change, add, accepted}
use Rattle.slicing.specs.Devices.{device}
use Rattle.slicing.specs.Limits.{max_range, max_limit, max_id, max_capacity}
use Rattle.slicing.specs.Runs.{◌of◌}
use Rattle.slicing.specs.Validity.{Valid}
use Rattle.slicing.proofs.Changes.{valid_change}
use Rattle.slicing.proofs.Claims.{valid_fresh}
use Rattle.slicing.proofs.Limits.{within_limits}
use Rattle.slicing_core.specs.Rows.{at}
use Rattle.packed_runs.specs.Words.{room}
use Rattle.opened.specs.OpenPools.{state_in, Open}
use Rattle.plans.specs.Plans.{Accepted}
use Rattle.opened.specs.declared.Opened.{Opened}

abbrev only : Opened → ℕ → ℕ → Opened
only o id capacity = record {
  range = o.range;
  limit = o.limit;
  devices = 1;
  ids = set o.ids 0 id;
  capacities = set o.capacities 0 capacity;
  has = set o.has 0 o.range;
  intervals = 1;
}

abbrev only_table : Opened → List ℕ → List ℕ
only_table o next = set next 0 (o.range * 65536)

module _ (o : Opened) (id capacity : ℕ) (next : List ℕ)
    (limits : (1 ≤ o.range) × (o.range ≤ max_range) × (1 ≤ o.limit) × (o.limit ≤ max_limit))
    (given : (1 ≤ id) × (id ≤ max_id) × (1 ≤ capacity) × (capacity ≤ max_capacity) × (length next ≡ room))
    (sizes : (length o.ids ≡ 256) × (length o.capacities ≡ 256) × (length o.has ≡ 256)) where
  abbrev only_state : State
  only_state = record { range = o.range; limit = o.limit; devices = device id capacity ∷ []; table = (o.range of id) ∷ [] }

  -- a fresh pool to which the device is added
  valid_only : Valid only_state
  unfolding change
  valid_only =
      rw (within_limits max_id id given.0 given.1, within_limits max_capacity capacity given.2 given.3)
      at (valid_change (fresh o.range o.limit) (valid_fresh o.range o.limit limits.0 limits.1 limits.2 limits.3) [] (add id capacity))

  -- the only run of the table
  size : at (only_table o next) 0 / 65536 ≡ o.range
  size = rw (get_or-set_same next 0 (o.range * 65536) 0 (omega arith)) (omega arith)

  label : at (only_table o next) 0 % 65536 ≡ 0
  label = rw (get_or-set_same next 0 (o.range * 65536) 0 (omega arith)) (omega arith)

  state_only : state_in (only o id capacity) (only_table o next) ≡ only_state
  state_only =
      rw (size, label, get_or-set_same o.ids 0 id 0 (omega arith), get_or-set_same o.capacities 0 capacity 0 (omega arith))

  open_only : Open (only o id capacity) (only_table o next)
  open_only = record {
    valid = subst Valid (sym state_only) valid_only;
    labels = λ i l. let e : i ≡ 0 = omega arith in rw (e, label) (omega arith);
    held = λ i l. let e : i ≡ 0 = omega arith in rw (e, size, label, get_or-set_same o.has 0 o.range 0 (omega arith)) (omega arith);
    ids_size = length-set o.ids 0 id ∙ sizes.0;
    capacities_size = length-set o.capacities 0 capacity ∙ sizes.1;
    has_size = length-set o.has 0 o.range ∙ sizes.2;
    table_size = length-set next 0 (o.range * 65536) ∙ given.4;
  }

  pub accepted_only : (s : State) (places : ℕ) (work : List ℕ) → s.range ≡ o.range → s.limit ≡ o.limit
      → Accepted (λ lent. accepted s lent (device id capacity ∷ []) ((s.range of id) ∷ []) []) places (record {
        moved = 0;
        count = 0;
        turns = 0;
        names = set o.ids 0 id;
        after = only o id capacity;
      }) work (only_table o next)
  accepted_only s places work e f = record {
    number = λ lent l. refl;
    moved = λ lent l. refl;
    count = λ lent l. refl;
    moves = λ lent l. refl;
    most = omega arith;
    points = omega arith;
    state = λ lent l. rw (e, f) state_only;
    opened = open_only;
  }
