-- Laws of the answers to the calls for a share and for a report.
--
-- reply: reply_share (of a share), reply_report (of a report)
-- Shared: shared_of (from the device found)
-- Reported: reported_of (from the device found)
use mathlib.Core.Path.{◌≡◌, refl, sym, ap, ◌∙◌}
use mathlib.Core.Bool.{Bool, true, false, cond}
use Prim.Native.Nat.{ℕ}
use Rattle.std.specs.Prelude.{Result, Ok, Err}
use Rattle.refusals.specs.Replies.{reply_of, replied, declined}
use Rattle.refusals.specs.declared.Refusal.{Refusal}
use Rattle.refusals.specs.declared.Refusal.TheVariants.{Outside, Absent}
use Rattle.slicing.specs.Devices.{device, present, capacity_of}
use Rattle.slicing.specs.Limits.{max_id, outside}
use Rattle.slicing.specs.Reports as Reports
use Rattle.slicing.specs.Reports.{report_of, no_report}
use Rattle.pools.specs.Pools.{state_of}
use Rattle.pools.specs.declared.Pool.{Pool}
use Rattle.valid_pools.specs.Finding.{FoundOf, found, invalid, with_device, report_from}
use Rattle.valid_pools.specs.Promises.{Shared, told, report_reply, Reported}
use Rattle.valid_pools.specs.declared.finding.Found.{Found}
use Rattle.valid_pools.proofs.FoundDevices.{found_as}

reply_share : (a b : Bool) (x : ℕ) → reply_of (cond a (Err Outside) (cond b (Ok x) (Err Absent))) ≡ cond a (declined 2) (cond b (replied x) (declined 5))
reply_share true b x = refl
reply_share false true x = refl
reply_share false false x = refl

reply_report : (a b : Bool) (x : Reports.Report) → x.number ≡ 0
    → report_reply (cond a (Err Outside) (cond b (Ok (told x)) (Err Absent))) ≡ cond a (no_report 2) (cond b x (no_report 5))
reply_report true b x z = refl
reply_report false true x z = ap (λ n. record { number = n; whole = x.whole; remainder = x.remainder; difference = x.difference }) (sym z)
reply_report false false x z = refl

pub shared_of : {p : Pool} {id : ℕ} {r : Result Found Refusal} {a : Result ℕ Refusal} → FoundOf p id r → a ≡ with_device (λ d. d.points) r → Shared p id a
shared_of {p} {id} (found v h) e = rw e (record {
  valid = λ k. found_as (λ d. d.points) h;
  reply = λ k. ap reply_of (found_as (λ d. d.points) h) ∙ reply_share (outside max_id id) (present id (state_of p).devices) _;
  invalid = λ n. absurd (n v);
  invalid_reply = λ n. absurd (n v);
})
shared_of (invalid n f) e = rw (e, f) (record {
  valid = λ v. absurd (n v);
  reply = λ v. absurd (n v);
  invalid = λ m. refl;
  invalid_reply = λ m. refl;
})

pub reported_of : {p : Pool} {id : ℕ} {r : Result Found Refusal} → FoundOf p id r → Reported p id (with_device report_from r)
reported_of {p} {id} (found v h) = record {
  valid = λ k. found_as report_from h;
  reply = λ k. ap report_reply (found_as report_from h)
      ∙ reply_report (outside max_id id) (present id (state_of p).devices)
      (report_of (state_of p).range (state_of p).devices (device id (capacity_of (state_of p).devices id))) refl;
  invalid = λ n. absurd (n v);
  invalid_reply = λ n. absurd (n v);
}
reported_of (invalid n e) = record {
  valid = λ v. absurd (n v);
  reply = λ v. absurd (n v);
  invalid = λ m. ap (with_device report_from) e;
  invalid_reply = λ m. ap (λ r. report_reply (with_device report_from r)) e;
}
