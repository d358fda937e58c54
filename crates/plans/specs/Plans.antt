-- What a plan is, and what the six steps on an opened pool start from.
--
--   Planned outcome places r work next       r is the plan of a change, or its refusal, whose outcome the rules give for every lent
--                                            list of so many places: `work` has its turns, `next` the new table
--   Merged o e rows work                     the rows that take part in the change of o to the devices of e, `work` having their table
use Rattle.std.specs.Prelude.{◌≡◌, List, map, ℕ, ◌^◌, ◌≤◌, ◌<◌, Result, Ok, Err, length}
use Rattle.refusals.specs.Replies.{number}
use Rattle.refusals.specs.declared.Refusal.{Refusal}
use Rattle.slicing.specs.Changes.{State, Outcome}
use Rattle.slicing.specs.Claims.{written}
use Rattle.slicing.specs.Devices.{Rising}
use Rattle.slicing.specs.Runs.{total, owned, relabel}
use Rattle.slicing.specs.ShareRule.{shares}
use Rattle.slicing.specs.SixSteps.{Move, moves_from}
use Rattle.slicing.specs.Validity.{Valid}
use Rattle.slicing_core.specs.Rows.{at, rows}
use Rattle.slicing_core.specs.Stages.{Below, Ascending}
use Rattle.packed_runs.specs.Words.{runs, turns_of, by_row, present, room, Labelled}
use Rattle.six_steps.proofs.Renaming.{move_as}
use Rattle.plans.specs.Labels.{lowered}
use Rattle.opened.specs.OpenPools.{devices_in, state_with, state_in, Open}
use Rattle.opened.specs.declared.Opened.{Opened}
use Rattle.plans.specs.declared.Plan.{Plan}
use Rattle.plans.specs.declared.Rows.{Rows}

-- an accepted change: the rules' outcome for every lent list of so many places
pub record Accepted (outcome : List Move → Outcome) (places : ℕ) (p : Plan) (work next : List ℕ) : Type 0 where
  pub number : (lent : List Move) → length lent ≡ places → (outcome lent).number ≡ 0
  pub moved : (lent : List Move) → length lent ≡ places → p.moved ≡ (outcome lent).moved
  pub count : (lent : List Move) → length lent ≡ places → p.count ≡ (outcome lent).count
  -- the moves are the turns whose owner changes, their rows named by ids
  pub moves : (lent : List Move) → length lent ≡ places
      → map (move_as (at p.names)) (moves_from 0 (turns_of work 0 p.turns)) ≡ written (outcome lent)
  pub most : p.turns ≤ room
  pub points : total (runs work 0 p.turns) < 2 ^ 48
  -- an opened pool again, with the rules' state
  pub state : (lent : List Move) → length lent ≡ places → state_in p.after next ≡ (outcome lent).state
  pub opened : Open p.after next

-- a refused one: the rules refuse it with that number, and nothing moves
pub record Declined (outcome : List Move → Outcome) (places : ℕ) (e : Refusal) : Type 0 where
  pub number : (lent : List Move) → length lent ≡ places → (outcome lent).number ≡ number e
  pub moved : (lent : List Move) → length lent ≡ places → (outcome lent).moved ≡ 0
  pub count : (lent : List Move) → length lent ≡ places → (outcome lent).count ≡ 0

pub data Planned (outcome : List Move → Outcome) (places : ℕ) (r : Result Plan Refusal) (work next : List ℕ) : Type 0 where
  accepts : (p : Plan) → r ≡ Ok p → Accepted outcome places p work next → Planned outcome places r work next
  refuses : (e : Refusal) → r ≡ Err e → Declined outcome places e → Planned outcome places r work next

-- the state before a change, its table read by the names of the rows
abbrev pub state_by : Opened → Rows → List ℕ → State
state_by o rs work = state_with o (relabel (at rs.names) (runs work 0 o.intervals))

pub record Merged (o e : Opened) (rs : Rows) (work : List ℕ) : Type 0 where
  pub valid : Valid (state_by o rs work)
  pub had : 1 ≤ o.devices
  -- the rows: their ids rise; the table is theirs, and gives each what it has
  pub few : rs.count ≤ 256
  pub ascending : Ascending rs.names rs.count
  pub known : Below 65536 rs.names rs.count
  pub labels : Labelled rs.count work o.intervals
  pub held : (i : ℕ) → i < rs.count → at rs.has i ≡ owned i (runs work 0 o.intervals)
  -- the devices afterwards, and their shares
  pub range : e.range ≡ o.range
  pub limit : e.limit ≡ o.limit
  pub some : 1 ≤ e.devices
  pub few_after : e.devices ≤ 256
  pub rising : Rising 0 (devices_in e)
  pub shared : rows e.has e.ids 0 e.devices ≡ shares e.range (devices_in e)
  -- each row but the one that goes is one of theirs; the one that goes is to have nothing
  pub left : (x : ℕ) → x < rs.count → (x ≡ rs.gone → ⊥)
      → (lowered rs.gone x < e.devices) × (at e.ids (lowered rs.gone x) ≡ at rs.names x)
  pub gone : rs.gone < rs.count → at rs.due rs.gone ≡ 0
  pub due : present (relabel (at rs.names) (by_row rs.due 0 rs.count)) ≡ present (shares e.range (devices_in e))
  pub ids_size : length e.ids ≡ 256
  pub capacities_size : length e.capacities ≡ 256
  pub shares_size : length e.has ≡ 256
