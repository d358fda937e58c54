-- The outcomes of `placement::add`, `remove` and `resize`: the answer, the pool and the lent list, one theorem for each refusal and each result.
--
--   Refuses n p lent r l      r answers n and zeros; the pool and the lent list are as they were
--   Accepts p lent .. r l     r answers 0, the moved points, the number of moves, the new pool; the list has the moves and then what it had
--   added, left, resized      the devices afterwards
--   table_to p es, moves_to p es    the joined new table, and the moves, where the points of p are given out anew to the devices es
--   listed r after            the moves in the list
-- all three: change_invalid (2, a pool that is not valid); change_directed (which way the moves go)
-- add: add_outside (2), add_present (4), add_full (6), add_wide (8), add_crowded (9); add_first, add_accepted; add_only_to
-- remove: remove_outside (2), remove_absent (5), remove_only (7), remove_wide (8), remove_crowded (9); remove_accepted; remove_only_from
-- resize: resize_outside (2), resize_absent (5), resize_wide (8), resize_crowded (9); resize_accepted; resize_one_way
use mathlib.Core.Path.{◌≡◌, sym, ap, ◌∙◌, subst}
use mathlib.Core.List.{List, [], ◌∷◌, ◌++◌, map}
use mathlib.Core.Logic.{◌⊎◌}
use Prim.Native.Nat.{ℕ, ◌≤◌, ◌<◌}
use native.Mathlib.Omega.{arith}
use lib.ListN.{length, take, drop, length-map}
use lib.Seq.{take-append_seam, take_at}
use Rattle.slicing.specs.Changes.{Change, add, remove, resize, Outcome, change}
use Rattle.slicing.specs.Claims.{move_at, written}
use Rattle.slicing.specs.Devices.{Device, device, insert, delete, update}
use Rattle.slicing.specs.Directions.{Directed}
use Rattle.slicing.specs.Runs.{Run, ◌of◌}
use Rattle.slicing.specs.SixSteps as Rules
use Rattle.slicing.specs.SixSteps.{new_table, moves, points}
use Rattle.slicing.proofs.Claims.{claim_valid}
use Rattle.slicing.proofs.Directions.{directed}
use Rattle.pools.specs.Pools.{state_of, pool_of, ValidPool}
use Rattle.placement.specs.declared.ChangeAnswer.{ChangeAnswer}
use Rattle.pools.specs.declared.Pool.{Pool}
use Rattle.placement.specs.Promises.{move_of, row_of, Answered, Changed}
use Rattle.placement.specs.declared.Move.{Move}
use Rattle.demand3.specs.Points.{Listed}
use Rattle.demand3.proofs.Demand3.{map_back}
use Rattle.guarantees.proofs.ChangeRules as Rule
use Rattle.guarantees.proofs.ChangeRules.{turns_to, Settles, Stops, Passes, stops, passes}
use Rattle.guarantees.proofs.Conditions.{Inside, listed_present, unlisted_absent, length_devices}

abbrev pub Refuses : {A : Type 0} → ℕ → Pool → List A → ChangeAnswer → List A → Type 0
Refuses n p lent r after = (r.refusal ≡ n) × (r.moved ≡ 0) × (r.count ≡ 0) × (r.pool ≡ p) × (after ≡ lent)

-- the pool p with other devices and another table
abbrev pub with_table : Pool → List Device → List (Run ℕ) → Pool
with_table p es table = pool_of (record { range = p.range; limit = p.limit; devices = es; table = table })

abbrev pub Accepts : Pool → List Move → List Device → List (Run ℕ) → List Rules.Move → ChangeAnswer → List Move → Type 0
Accepts p lent es table ms r after =
    (r.refusal ≡ 0) × (r.moved ≡ points ms) × (r.count ≡ length ms) × (r.pool ≡ with_table p es table)
    × (after ≡ map row_of ms ++ drop (length ms) lent)

abbrev pub added : Pool → ℕ → ℕ → List Device
added p d c = insert d c (state_of p).devices

abbrev pub left : Pool → ℕ → List Device
left p d = delete d (state_of p).devices

abbrev pub resized : Pool → ℕ → ℕ → List Device
resized p d c = update d c (state_of p).devices

abbrev pub table_to : Pool → List Device → List (Run ℕ)
table_to p es = new_table (turns_to (state_of p) es)

abbrev pub moves_to : Pool → List Device → List Rules.Move
moves_to p es = moves (turns_to (state_of p) es)

-- ---- from the rules to the call

module _ {p : Pool} {lent : List Move} {r : ChangeAnswer} {after : List Move} (v : ValidPool p) where
  change_stops : {k : Change} {n : ℕ} → Changed p lent k r after → Stops (state_of p) (map move_of lent) k n → Refuses n p lent r after
  change_stops c h =
      let a = rw (stops (state_of p) (map move_of lent) h) at (c.valid v) in
      (a.number, a.moved, a.count, a.pool ∙ v.same, a.list)

  change_passes : {k : Change} {es : List Device} {table : List (Run ℕ)} {ms : List Rules.Move} → Changed p lent k r after
      → Passes (state_of p) (map move_of lent) k es table ms → Accepts p lent es table ms r after
  unfolding state_of
  change_passes {ms = ms} c h =
      let a = rw (passes (state_of p) (map move_of lent) h) at (c.valid v) in
      let e = take-append_seam ms (drop (length ms) (map move_of lent)) in
      (a.number, a.moved, a.count, a.pool, a.list ∙ ap (λ (xs : List Rules.Move). map row_of xs ++ drop (length ms) lent) e)

  module _ {k : Change} {es : List Device} (c : Changed p lent k r after) (h : Settles (state_of p) k es) where
    change_wide : p.limit < length (table_to p es) → Refuses 8 p lent r after
    unfolding state_of
    change_wide l = change_stops c (Rule.eight h l)

    module _ (fits : length (table_to p es) ≤ p.limit) where
      change_crowded : length lent < length (moves_to p es) → Refuses 9 p lent r after
      unfolding state_of
      change_crowded l = change_stops c (Rule.nine h fits (omega (arith, length-map lent move_of)))

      change_settled : length (moves_to p es) ≤ length lent → Accepts p lent es (table_to p es) (moves_to p es) r after
      unfolding state_of
      change_settled l = change_passes c (Rule.settled h fits (omega (arith, length-map lent move_of)))

-- ---- the outcomes

module _ (p : Pool) (lent : List Move) (r : ChangeAnswer) (after : List Move) where
  -- a pool that is not valid
  pub change_invalid : (k : Change) → Changed p lent k r after → (ValidPool p → ⊥) → Refuses 2 p lent r after
  change_invalid k c h = let a = c.invalid h in (a.number, a.moved, a.count, a.pool, a.list)

  module _ (v : ValidPool p) where
    module _ (d c : ℕ) (k : Changed p lent (add d c) r after) where
      -- an id outside 1 to 65,535 or a capacity outside 1 to 16,000,000
      pub add_outside : (Inside 65535 d → Inside 16000000 c → ⊥) → Refuses 2 p lent r after
      add_outside h = change_stops v k (Rule.add_two h)

      module _ (i : Inside 65535 d) (j : Inside 16000000 c) where
        -- the pool lists the id
        pub add_present : Listed p d → Refuses 4 p lent r after
        add_present h = change_stops v k (Rule.add_four i j (listed_present p d h))

        -- to a pool without devices: the whole range, no moves and a moved count of 0
        pub add_first : p.devices ≡ 0 → Accepts p lent (device d c ∷ []) ((p.range of d) ∷ []) [] r after
        unfolding state_of
        add_first l = change_passes v k (Rule.first i j (omega (arith, length_devices p)))

        module _ (h : Listed p d → ⊥) where
          -- 256 devices are present
          pub add_full : 256 ≤ p.devices → Refuses 6 p lent r after
          add_full l = change_stops v k (Rule.add_six i j (unlisted_absent p d h) (omega (arith, length_devices p)))

          module _ (some : 1 ≤ p.devices) (few : p.devices < 256) where
            adds : Settles (state_of p) (add d c) (added p d c)
            adds = Rule.adds i j (unlisted_absent p d h) (omega (arith, length_devices p)) (omega (arith, length_devices p))

            -- the joined new table has over M intervals
            pub add_wide : p.limit < length (table_to p (added p d c)) → Refuses 8 p lent r after
            add_wide l = change_wide v k adds l

            -- more moves than places in the lent list
            pub add_crowded : length (table_to p (added p d c)) ≤ p.limit → length lent < length (moves_to p (added p d c)) → Refuses 9 p lent r after
            add_crowded l m = change_crowded v k adds l m

            pub add_accepted : length (table_to p (added p d c)) ≤ p.limit → length (moves_to p (added p d c)) ≤ length lent
                → Accepts p lent (added p d c) (table_to p (added p d c)) (moves_to p (added p d c)) r after
            add_accepted l m = change_settled v k adds l m

    module _ (d : ℕ) (k : Changed p lent (remove d) r after) where
      -- an id outside 1 to 65,535
      pub remove_outside : (Inside 65535 d → ⊥) → Refuses 2 p lent r after
      remove_outside h = change_stops v k (Rule.remove_two h)

      module _ (i : Inside 65535 d) where
        -- the pool does not list the id
        pub remove_absent : (Listed p d → ⊥) → Refuses 5 p lent r after
        remove_absent h = change_stops v k (Rule.remove_five i (unlisted_absent p d h))

        module _ (h : Listed p d) where
          -- the only device
          pub remove_only : p.devices ≤ 1 → Refuses 7 p lent r after
          remove_only l = change_stops v k (Rule.remove_seven i (listed_present p d h) (omega (arith, length_devices p)))

          module _ (more : 1 < p.devices) where
            removes : Settles (state_of p) (remove d) (left p d)
            removes = Rule.removes i (listed_present p d h) (omega (arith, length_devices p))

            pub remove_wide : p.limit < length (table_to p (left p d)) → Refuses 8 p lent r after
            remove_wide l = change_wide v k removes l

            pub remove_crowded : length (table_to p (left p d)) ≤ p.limit → length lent < length (moves_to p (left p d)) → Refuses 9 p lent r after
            remove_crowded l m = change_crowded v k removes l m

            pub remove_accepted : length (table_to p (left p d)) ≤ p.limit → length (moves_to p (left p d)) ≤ length lent
                → Accepts p lent (left p d) (table_to p (left p d)) (moves_to p (left p d)) r after
            remove_accepted l m = change_settled v k removes l m

    module _ (d c : ℕ) (k : Changed p lent (resize d c) r after) where
      -- an id outside 1 to 65,535 or a capacity outside 1 to 16,000,000
      pub resize_outside : (Inside 65535 d → Inside 16000000 c → ⊥) → Refuses 2 p lent r after
      resize_outside h = change_stops v k (Rule.resize_two h)

      module _ (i : Inside 65535 d) (j : Inside 16000000 c) where
        -- the pool does not list the id
        pub resize_absent : (Listed p d → ⊥) → Refuses 5 p lent r after
        resize_absent h = change_stops v k (Rule.resize_five i j (unlisted_absent p d h))

        module _ (h : Listed p d) where
          resizes : Settles (state_of p) (resize d c) (resized p d c)
          resizes = Rule.resizes i j (listed_present p d h)

          pub resize_wide : p.limit < length (table_to p (resized p d c)) → Refuses 8 p lent r after
          resize_wide l = change_wide v k resizes l

          pub resize_crowded : length (table_to p (resized p d c)) ≤ p.limit → length lent < length (moves_to p (resized p d c)) → Refuses 9 p lent r after
          resize_crowded l m = change_crowded v k resizes l m

          pub resize_accepted : length (table_to p (resized p d c)) ≤ p.limit → length (moves_to p (resized p d c)) ≤ length lent
              → Accepts p lent (resized p d c) (table_to p (resized p d c)) (moves_to p (resized p d c)) r after
          resize_accepted l m = change_settled v k resizes l m

-- ---- which way the moves go (Wish 4)

abbrev pub listed : ChangeAnswer → List Move → List Rules.Move
listed r after = map move_of (take r.count after)

module _ (p : Pool) (lent : List Move) (r : ChangeAnswer) (after : List Move) (v : ValidPool p) where
  change_directed : (k : Change) → Changed p lent k r after → r.refusal ≡ 0 → Directed k (listed r after)
  change_directed k c z = subst (Directed k) (sym front) (directed (state_of p) v.valid (map move_of lent) k (sym a.number ∙ z))
    where
      o : Outcome
      o = change (state_of p) (map move_of lent) k

      a : Answered lent o (pool_of o.state) r after
      a = c.valid v

      lines : length (map row_of (written o)) ≡ r.count
      lines = length-map (written o) row_of ∙ (claim_valid (state_of p) v.valid (map move_of lent) k).counted ∙ sym a.count

      front : listed r after ≡ written o
      front =
          ap (λ (l : List Move). map move_of (take r.count l)) a.list
          ∙ ap (map move_of) (take_at (map row_of (written o)) (drop o.count lent) r.count lines) ∙ map_back (written o)

  -- 'An add must move points only to the new disk,
  pub add_only_to : (d c : ℕ) → Changed p lent (add d c) r after → r.refusal ≡ 0 → (i : ℕ) → i < length (listed r after) → (move_at (listed r after) i).to ≡ d
  add_only_to d c k = change_directed (add d c) k

  -- a removal only from the old one,
  pub remove_only_from : (d : ℕ) → Changed p lent (remove d) r after → r.refusal ≡ 0 → (i : ℕ) → i < length (listed r after) → (move_at (listed r after) i).from ≡ d
  remove_only_from d k = change_directed (remove d) k

  -- a resize only to or from the one named.'
  pub resize_one_way : (d c : ℕ) → Changed p lent (resize d c) r after → r.refusal ≡ 0
      → ((i : ℕ) → i < length (listed r after) → (move_at (listed r after) i).to ≡ d) ⊎ ((i : ℕ) → i < length (listed r after) → (move_at (listed r after) i).from ≡ d)
  resize_one_way d c k = change_directed (resize d c) k
