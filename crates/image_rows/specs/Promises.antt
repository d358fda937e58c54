-- What the calls that tell of the pool of an image promise.
--
--   Numbered xs a r     r answers the call for range, limit, devices and intervals
--   device_numbers s     id, capacity and share of each device
--   interval_numbers s   start, length and owner of each interval
--   Listed f xs a r     r answers the call for the rows f of the image's state
--   found_reply r       document 01's number, and the numbers of the device that was found
--   FoundOn xs d r      r is the device d of the image's pool, or the refusal
--   Shared xs d a r     r answers the call for the share of d
--   ReportLeft          the refusal number or 0, the places of the answer and the difference afterwards
--   Reported xs d a x r r answers the call for the report on d, x being the difference before
use Rattle.std.specs.Prelude.{◌≡◌, cond, List, [], ◌∷◌, ◌++◌, ℕ, ◌≤◌, ◌<◌, Result, Ok, Err, ltb, ℤ, length, drop}
use Rattle.refusals.specs.Replies.{number}
use Rattle.refusals.specs.declared.Refusal.{Refusal}
use Rattle.slicing.specs.Changes.{State}
use Rattle.slicing.specs.Devices.{Device}
use Rattle.slicing.specs.Reports.{Report, no_report, report}
use Rattle.slicing.specs.Runs.{Interval, intervals}
use Rattle.slicing.specs.ShareRule.{share_of}
use Rattle.answers.specs.Answers.{Answer, zeros}
use Rattle.valid_pools.specs.Finding.{found_of}
use Rattle.valid_pools.specs.Promises.{share_answer}
use Rattle.valid_pools.specs.declared.finding.Found.{Found}
use Rattle.images.specs.OnImages.{OnImage}

-- four numbers; 17 where the answer has under four places, and all stays
pub record Numbered (xs a : List ℕ) (r : Answer) : Type 0 where
  pub short : length a < 4 → r ≡ record { number = 17; places = a }
  pub room : 4 ≤ length a
      → OnImage xs (λ n. record { number = n; places = zeros 4 a })
      (λ s. record { number = 0; places = s.range ∷ s.limit ∷ length s.devices ∷ length s.table ∷ drop 4 a }) r

-- ---- rows of three numbers

abbrev pub devices_with : (ℕ → ℕ) → List Device → List ℕ
devices_with f [] = []
devices_with f (e ∷ ds) = e.id ∷ e.capacity ∷ f e.id ∷ devices_with f ds

abbrev pub device_numbers : State → List ℕ
device_numbers s = devices_with (share_of s.range s.devices) s.devices

abbrev pub intervals_as : List Interval → List ℕ
intervals_as [] = []
intervals_as (i ∷ is) = i.start ∷ i.size ∷ i.owner ∷ intervals_as is

abbrev pub interval_numbers : State → List ℕ
interval_numbers s = intervals_as (intervals 0 s.table)

-- the rows and, behind them, the places as they were; refused, also with 17 where they do not fit, all stays
abbrev pub listed_as : List ℕ → List ℕ → Answer
listed_as xs a = cond (ltb (length a) (length xs)) (record { number = 17; places = a }) (record { number = 0; places = xs ++ drop (length xs) a })

abbrev pub Listed : (State → List ℕ) → List ℕ → List ℕ → Answer → Type 0
Listed f xs a r = OnImage xs (λ n. record { number = n; places = a }) (λ s. listed_as (f s) a) r

-- ---- one device

-- the number of a refusal and zeros, or 0 and the device
pub record FoundReply : Type 0 where
  pub number : ℕ
  pub device : Found

abbrev pub not_found : ℕ → FoundReply
not_found n = record { number = n; device = record { range = 0; capacity = 0; sum = 0; points = 0 } }

abbrev pub found_reply : Result Found Refusal → FoundReply
found_reply (Ok f) = record { number = 0; device = f }
found_reply (Err e) = not_found (number e)

abbrev pub FoundOn : List ℕ → ℕ → Result Found Refusal → Type 0
FoundOn xs d r = OnImage xs not_found (λ s. found_reply (found_of s d)) (found_reply r)

-- ---- the share of a device

abbrev pub share_told : List ℕ → Result ℕ Refusal → Answer
share_told a (Err e) = record { number = number e; places = zeros 1 a }
share_told a (Ok x) = record { number = 0; places = x ∷ drop 1 a }

pub record Shared (xs : List ℕ) (d : ℕ) (a : List ℕ) (r : Answer) : Type 0 where
  pub short : length a < 1 → r ≡ record { number = 17; places = a }
  pub room : 1 ≤ length a → OnImage xs (λ n. record { number = n; places = zeros 1 a }) (λ s. share_told a (share_answer s d)) r

-- ---- the report on a device (Wish 2)

pub record ReportLeft : Type 0 where
  pub number : ℕ
  pub places : List ℕ
  pub difference : ℤ

-- the whole number and the remainder in the first two places, the others as they were; refused, zeros
abbrev pub report_told : List ℕ → Report → ReportLeft
report_told a x = record { number = x.number; places = x.whole ∷ x.remainder ∷ drop 2 a; difference = x.difference }

pub record Reported (xs : List ℕ) (d : ℕ) (a : List ℕ) (x : ℤ) (r : ReportLeft) : Type 0 where
  pub short : length a < 2 → r ≡ record { number = 17; places = a; difference = x }
  pub room : 2 ≤ length a → OnImage xs (λ n. report_told a (no_report n)) (λ s. report_told a (report s.range s.devices d)) r
