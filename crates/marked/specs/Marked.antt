-- The examples of document 01, 'Marked for proof', in one group: a record with a field for each, under its sentence. Proved in proofs/Marked.antt.
use Rattle.std.specs.Prelude.{◌≡◌, [], ◌∷◌, Ok, Err}
use Rattle.refusals.specs.declared.Refusal.TheVariants.{Shapeless, Outside}
use Rattle.history_numbers.specs.Capacities.{capacity_answer}
use Rattle.history_numbers.specs.Text.{capacity_in}
use Rattle.lookup_core.specs.Probes.{scaled}
use Rattle.slicing.specs.Changes.{fresh, add, remove, resize}
use Rattle.slicing.specs.Claims.{written}
use Rattle.slicing.specs.Devices.{device}
use Rattle.slicing.specs.Runs.{◌of◌}
use Rattle.slicing.specs.ShareRule.{shares}
use Rattle.slicing.specs.SixSteps.{move}
use Rattle.slicing.proofs.Cases.{after, next, three_equal}

pub record Marked : Type 0 where
  -- `3.2` is 3,200
  pub K1 : capacity_answer (capacity_in (0x33 ∷ 0x2e ∷ 0x32 ∷ [])) ≡ Ok 3200
  -- `3,2` and `3.2e` give 1
  pub K2 : (capacity_answer (capacity_in (0x33 ∷ 0x2c ∷ 0x32 ∷ [])) ≡ Err Shapeless)
      × (capacity_answer (capacity_in (0x33 ∷ 0x2e ∷ 0x32 ∷ 0x65 ∷ [])) ≡ Err Shapeless)
  -- `0.000` gives 2
  pub K3 : capacity_answer (capacity_in (0x30 ∷ 0x2e ∷ 0x30 ∷ 0x30 ∷ 0x30 ∷ [])) ≡ Err Outside
  -- `16000.000` is 16,000,000; `16000.001` gives 2 (Wish 1)
  pub K4 : (capacity_answer (capacity_in (0x31 ∷ 0x36 ∷ 0x30 ∷ 0x30 ∷ 0x30 ∷ 0x2e ∷ 0x30 ∷ 0x30 ∷ 0x30 ∷ [])) ≡ Ok 16000000)
      × (capacity_answer (capacity_in (0x31 ∷ 0x36 ∷ 0x30 ∷ 0x30 ∷ 0x30 ∷ 0x2e ∷ 0x30 ∷ 0x30 ∷ 0x31 ∷ [])) ≡ Err Outside)
  -- R = 100, three equal: shares 34, 33, 33
  pub K5 : shares 100 (device 1 1000 ∷ device 2 1000 ∷ device 3 1000 ∷ []) ≡ (34 of 1) ∷ (33 of 2) ∷ (33 of 3) ∷ []
  -- after line 4 it is 0–33 to device 1, 34–66 to 3, 67–99 to 2
  pub K6 : (after (fresh 100 16) three_equal).table ≡ (34 of 1) ∷ (33 of 3) ∷ (33 of 2) ∷ []
  -- after line 6 it is 0–33 to 1, 34–66 to 3, 67–82 to 1, 83–99 to 3
  pub K7 : (next (fresh 100 16) three_equal (remove 2)).state.table ≡ (34 of 1) ∷ (33 of 3) ∷ (16 of 1) ∷ (17 of 3) ∷ []
  -- the table that is printed after line 7
  pub K8 : (next (fresh 100 16) (add 1 1000 ∷ add 2 1000 ∷ add 3 1000 ∷ remove 2 ∷ []) (resize 3 3000)).state.table
      ≡ (9 of 1) ∷ (58 of 3) ∷ (16 of 1) ∷ (17 of 3) ∷ []
  -- R = 100, M = 1: a second add of equal capacity gives 8; M = 2 accepts it
  pub K9 : ((next (fresh 100 1) (add 1 1000 ∷ []) (add 2 1000)).number ≡ 8) × ((next (fresh 100 2) (add 1 1000 ∷ []) (add 2 1000)).number ≡ 0)
  -- R = 1, M = 1: a second add of equal capacity and higher id is accepted and moves nothing; with a lower id it moves point 0
  pub K10 : ((next (fresh 1 1) (add 5 1000 ∷ []) (add 6 1000)).number ≡ 0) × (written (next (fresh 1 1) (add 5 1000 ∷ []) (add 6 1000)) ≡ [])
      × ((next (fresh 1 1) (add 5 1000 ∷ []) (add 4 1000)).number ≡ 0) × (written (next (fresh 1 1) (add 5 1000 ∷ []) (add 4 1000)) ≡ move 0 1 5 4 ∷ [])
  -- R = 10, capacities 0.143, 0.857, then 0.030: shares 1, 9 stay 1, 9, the new disk gets 0, and nothing moves (Wish 4)
  pub K11 : (shares 10 (device 1 143 ∷ device 2 857 ∷ []) ≡ (1 of 1) ∷ (9 of 2) ∷ [])
      × (shares 10 (device 1 143 ∷ device 2 857 ∷ device 3 30 ∷ []) ≡ (1 of 1) ∷ (9 of 2) ∷ (0 of 3) ∷ [])
      × ((next (fresh 10 16) (add 1 143 ∷ add 2 857 ∷ []) (add 3 30)).number ≡ 0)
      × (written (next (fresh 10 16) (add 1 143 ∷ add 2 857 ∷ []) (add 3 30)) ≡ [])
  -- R = 100: h = 2,147,483,648 is point 50, h = 4,294,967,295 is 99
  pub K12 : (scaled 2147483648 100 ≡ 50) × (scaled 4294967295 100 ≡ 99)
