-- What the offered calls for a share and for a report promise: a record of equations for every pool value and every number.
--
--   share_answer s id        the answer to the call for the share of id
--   Shared p id r           r is that answer of the pool p
--   told x                   the numbers of the report x
--   report_reply r           document 01's number and values of the answer r to the call for a report
--   report_answer s id       the answer to the call for the report on id
--   Reported p id r         r is that answer of the pool p
use Rattle.std.specs.Prelude.{◌≡◌, cond, ℕ, Result, Ok, Err}
use Rattle.refusals.specs.Replies.{number, reply_of, replied, declined}
use Rattle.refusals.specs.declared.Refusal.{Refusal}
use Rattle.refusals.specs.declared.Refusal.TheVariants.{Outside, Absent}
use Rattle.slicing.specs.Changes.{State}
use Rattle.slicing.specs.Devices.{device, present, capacity_of}
use Rattle.slicing.specs.Limits.{max_id, outside}
use Rattle.slicing.specs.Reports as Reports
use Rattle.slicing.specs.Reports.{report_of, report, no_report}
use Rattle.slicing.specs.ShareRule.{share_of}
use Rattle.pools.specs.Pools.{state_of, ValidPool}
use Rattle.pools.specs.declared.Pool.{Pool}
use Rattle.valid_pools.specs.declared.DeviceReport.{DeviceReport}

-- 2 for an id outside its limits, 5 for an absent one, else the share
abbrev pub share_answer : State → ℕ → Result ℕ Refusal
share_answer s id =
    cond (outside max_id id) (Err Outside)
    (cond (present id s.devices) (Ok (share_of s.range s.devices id))
    (Err Absent))

pub record Shared (p : Pool) (id : ℕ) (r : Result ℕ Refusal) : Type 0 where
  pub valid : ValidPool p → r ≡ share_answer (state_of p) id
  pub reply : ValidPool p
      → reply_of r
      ≡ cond (outside max_id id) (declined 2)
      (cond (present id (state_of p).devices) (replied (share_of (state_of p).range (state_of p).devices id))
      (declined 5))
  pub invalid : (ValidPool p → ⊥) → r ≡ Err Outside
  pub invalid_reply : (ValidPool p → ⊥) → reply_of r ≡ declined 2

-- ---- the report (Wish 2)

abbrev pub told : Reports.Report → DeviceReport
told x = record { whole = x.whole; remainder = x.remainder; difference = x.difference }

-- 'For an answer that is an enum, a definition gives this paper's number and values for each case of the enum.'
abbrev pub report_reply : Result DeviceReport Refusal → Reports.Report
report_reply (Ok x) = record { number = 0; whole = x.whole; remainder = x.remainder; difference = x.difference }
report_reply (Err e) = no_report (number e)

-- 2 for an id outside its limits; 'An absent id gets 5.'
abbrev pub report_answer : State → ℕ → Result DeviceReport Refusal
report_answer s id =
    cond (outside max_id id) (Err Outside)
    (cond (present id s.devices) (Ok (told (report_of s.range s.devices (device id (capacity_of s.devices id)))))
    (Err Absent))

pub record Reported (p : Pool) (id : ℕ) (r : Result DeviceReport Refusal) : Type 0 where
  pub valid : ValidPool p → r ≡ report_answer (state_of p) id
  pub reply : ValidPool p → report_reply r ≡ report (state_of p).range (state_of p).devices id
  pub invalid : (ValidPool p → ⊥) → r ≡ Err Outside
  pub invalid_reply : (ValidPool p → ⊥) → report_reply r ≡ no_report 2
