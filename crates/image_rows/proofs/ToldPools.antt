-- The calls that tell of the pool of an image: what they leave, from what the calls beneath them answered.
--
-- numbers: numbered_told
-- rows: listed_unread, listed_short, listed_told; length_device_numbers, length_interval_numbers (of an opened pool)
-- one device: found_unread, found_told, measured_on
-- a share: shared_found; a report: reported_found (each from the device found, or the refusal)
use mathlib.Core.Path.{◌≡◌, refl, sym, ap, ◌∙◌, subst}
use mathlib.Core.Bool.{Bool, true, false, cond}
use mathlib.Core.List.{List, ◌∷◌, ◌++◌}
use Prim.Native.Nat.{ℕ, ◌*◌, ◌/◌, ◌≤◌, ◌<◌}
use native.Mathlib.Omega.{arith}
use lib.IntN.{ℤ}
use lib.ListN.{length, drop}
use lib.Dec.{ltb}
use borrow.Author.Tests.{lt-ltb, le-ltb}
use Rattle.std.specs.Prelude.{Result, Ok, Err, IfOk}
use Rattle.refusals.specs.Replies.{number}
use Rattle.refusals.specs.declared.Refusal.{Refusal}
use Rattle.refusals.specs.declared.Refusal.TheVariants.{Outside, Absent}
use Rattle.slicing.specs.Changes.{State}
use Rattle.slicing.specs.Devices.{device, present, capacity_of}
use Rattle.slicing.specs.Limits.{max_id, outside}
use Rattle.slicing.specs.Reports.{Report, no_report, report, report_of}
use Rattle.slicing.specs.ShareRule.{share_of}
use Rattle.slicing.specs.Validity.{Valid}
use Rattle.slicing_core.proofs.Rows.{length_device_rows}
use Rattle.opened.specs.declared.Opened.{Opened}
use Rattle.opened.specs.OpenPools.{devices_in, state_in, Open}
use Rattle.opened.proofs.OpenPools.{open_length}
use Rattle.pools.specs.Pools.{state_of}
use Rattle.pools.specs.declared.Pool.{Pool}
use Rattle.pools.specs.declared.PoolAnswer.{PoolAnswer}
use Rattle.pools.proofs.PoolLaws.{length_table_rows}
use Rattle.plans.proofs.Planning.{number_some}
use Rattle.valid_pools.specs.Finding.{numbers_of, found_of, FoundIn, with_device, Measured, report_from}
use Rattle.valid_pools.specs.Promises.{share_answer, report_reply}
use Rattle.valid_pools.specs.declared.DeviceReport.{DeviceReport}
use Rattle.valid_pools.specs.declared.finding.Found.{Found}
use Rattle.valid_pools.proofs.FoundDevices.{measured_in}
use Rattle.images.specs.OnImages.{unmarked, versioned, faulty, accepted}
use Rattle.images.specs.Promises.{ReadAs, answer_of}
use Rattle.images.specs.declared.reader.ReadPool.{ReadPool}
use Rattle.images.proofs.OnImages.{on_image_accepted, on_image_refused, on_image_from}
use Rattle.answers.specs.Answers.{Answer}
use Rattle.image_rows.specs.Promises.{Numbered, device_numbers, interval_numbers, listed_as, Listed, FoundReply, found_reply, FoundOn, share_told, Shared, ReportLeft, report_told, Reported}
use Rattle.image_rows.proofs.ThreeNumbers.{length_devices_with, length_intervals_as}

-- ---- numbers

-- the counts of a pool are those of its state
numbers_state : (p : Pool) (a : List ℕ)
    → p.range ∷ p.limit ∷ p.devices ∷ p.intervals ∷ drop 4 a
    ≡ (state_of p).range ∷ (state_of p).limit ∷ length (state_of p).devices ∷ length (state_of p).table ∷ drop 4 a
unfolding state_of
numbers_state p a = rw (length_device_rows p.ids p.capacities 0 p.devices, length_table_rows p.starts p.owners p.range 0 p.intervals)

module _ (xs a : List ℕ) (made : PoolAnswer) (i : ReadAs xs made) (l : 4 ≤ length a) (a' : List ℕ) where
  pub numbered_told : made.refusal ≤ 0
      → a' ≡ made.pool.range ∷ made.pool.limit ∷ made.pool.devices ∷ made.pool.intervals ∷ drop 4 a
      → Numbered xs a (record { number = 0; places = a' })
  numbered_told z e = record {
    short = λ k. absurd (omega (arith, l, k));
    room = λ k. on_image_accepted xs _ _ _ made i z (ap (λ ys. record { number = 0; places = ys }) (e ∙ numbers_state made.pool a));
  }

-- ---- rows

pub listed_unread : (f : State → List ℕ) (xs a : List ℕ) (x : Refusal) → ReadAs xs (answer_of (Err x))
    → Listed f xs a (record { number = number x; places = a })
listed_unread f xs a x i = on_image_refused xs _ _ _ (answer_of (Err x)) i (omega (arith, number_some x)) refl

-- n rows of an opened pool with the state s
module _ (f : State → List ℕ) {xs : List ℕ} (a : List ℕ) (made : ReadPool) (i : ReadAs xs (answer_of (Ok made))) where
  module _ {s : State} (e : s ≡ state_of made.pool) {n : ℕ} (l : length (f s) ≡ 3 * n) where
    pub listed_short : length a / 3 < n → Listed f xs a (record { number = 17; places = a })
    listed_short h =
        on_image_accepted xs _ _ _ (answer_of (Ok made)) i (omega arith)
        (subst (λ (u : State). record { number = 17; places = a } ≡ listed_as (f u) a) e (rw (lt-ltb (length a) (length (f s)) (omega (arith, h, l)))))

    pub listed_told : {a' : List ℕ} → n ≤ length a / 3 → a' ≡ f s ++ drop (3 * n) a → Listed f xs a (record { number = 0; places = a' })
    listed_told {a'} h k =
        on_image_accepted xs _ _ _ (answer_of (Ok made)) i (omega arith)
        (subst (λ (u : State). record { number = 0; places = a' } ≡ listed_as (f u) a) e
        (rw (le-ltb (length a) (length (f s)) (omega (arith, h, l)), l, k)))

module _ {o : Opened} {table : List ℕ} (h : Open o table) where
  pub length_device_numbers : length (device_numbers (state_in o table)) ≡ 3 * o.devices
  length_device_numbers =
      length_devices_with (share_of o.range (devices_in o)) (devices_in o) ∙ ap (λ n. 3 * n) (length_device_rows o.ids o.capacities 0 o.devices)

  pub length_interval_numbers : length (interval_numbers (state_in o table)) ≡ 3 * o.intervals
  length_interval_numbers = length_intervals_as 0 (state_in o table).table ∙ ap (λ n. 3 * n) (open_length h)

-- ---- one device

module _ (xs : List ℕ) (d : ℕ) where
  pub found_unread : (x : Refusal) → ReadAs xs (answer_of (Err x)) → FoundOn xs d (Err x)
  found_unread x i = on_image_refused xs _ _ _ (answer_of (Err x)) i (omega (arith, number_some x)) refl

  -- of an opened pool with the state s
  pub found_told : (made : ReadPool) → ReadAs xs (answer_of (Ok made)) → (r : Result Found Refusal) (s : State) → s ≡ state_of made.pool
      → FoundIn s d r → FoundOn xs d r
  found_told made i r s e h =
      on_image_accepted xs _ _ _ (answer_of (Ok made)) i (omega arith)
      (ap found_reply (h.same ∙ ap (λ (u : State). found_of u d) e))

  measured : {s : State} → Valid s → (f : Found) → found_reply (Ok f) ≡ found_reply (found_of s d) → Measured f
  measured {s} v f e = measured_in {id = d} v (record { same = go (outside max_id d) (present d s.devices) e })
    where
      go : (t b : Bool) → found_reply (Ok f) ≡ found_reply (cond t (Err Outside) (cond b (Ok (numbers_of s d)) (Err Absent)))
          → Ok f ≡ cond t (Err Outside) (cond b (Ok (numbers_of s d)) (Err Absent))
      go true b h = absurd (omega (arith, ap (λ (y : FoundReply). y.number) h))
      go false true h = ap (λ (y : FoundReply). Ok y.device) h
      go false false h = absurd (omega (arith, ap (λ (y : FoundReply). y.number) h))

  pub measured_on : (r : Result Found Refusal) → FoundOn xs d r → IfOk r Measured
  measured_on (Err y) h = tt
  measured_on (Ok f) (unmarked m e) = absurd (omega (arith, ap (λ (y : FoundReply). y.number) e))
  measured_on (Ok f) (versioned m v e) = absurd (omega (arith, ap (λ (y : FoundReply). y.number) e))
  measured_on (Ok f) (faulty m v s e) = absurd (omega (arith, ap (λ (y : FoundReply). y.number) e))
  measured_on (Ok f) (accepted i e) = measured i.sound.valid f e

-- ---- a share

module _ (xs : List ℕ) (d : ℕ) (a : List ℕ) where
  -- the number and the points of the device found
  abbrev share_left : FoundReply → Answer
  share_left y = record { number = y.number; places = y.device.points ∷ drop 1 a }

  share_done : (s : State) → share_left (found_reply (found_of s d)) ≡ share_told a (share_answer s d)
  share_done s = go (outside max_id d) (present d s.devices)
    where
      go : (t b : Bool)
          → share_left (found_reply (cond t (Err Outside) (cond b (Ok (numbers_of s d)) (Err Absent))))
          ≡ share_told a (cond t (Err Outside) (cond b (Ok (share_of s.range s.devices d)) (Err Absent)))
      go true b = refl
      go false true = refl
      go false false = refl

  pub shared_found : 1 ≤ length a → (r : Result Found Refusal) → FoundOn xs d r → (a' : List ℕ) → a' ≡ (found_reply r).device.points ∷ drop 1 a
      → Shared xs d a (record { number = (found_reply r).number; places = a' })
  shared_found l r h a' e = record {
    short = λ k. absurd (omega (arith, l, k));
    room = λ k. rw e (on_image_from share_left _ _ (λ n z. refl) share_done h);
  }

-- ---- a report

module _ (xs : List ℕ) (d : ℕ) (a : List ℕ) (x : ℤ) where
  -- what is told of the device found
  abbrev report_left : DeviceReport → ReportLeft
  report_left w = record { number = 0; places = w.whole ∷ w.remainder ∷ drop 2 a; difference = w.difference }

  abbrev reply_left : FoundReply → ReportLeft
  reply_left y = cond (ltb 0 y.number) (report_told a (no_report y.number)) (report_left (report_from y.device))

  report_done : (s : State) → reply_left (found_reply (found_of s d)) ≡ report_told a (report s.range s.devices d)
  report_done s = go (outside max_id d) (present d s.devices)
    where
      go : (t b : Bool)
          → reply_left (found_reply (cond t (Err Outside) (cond b (Ok (numbers_of s d)) (Err Absent))))
          ≡ report_told a (cond t (no_report 2) (cond b (report_of s.range s.devices (device d (capacity_of s.devices d))) (no_report 5)))
      go true b = refl
      go false true = refl
      go false false = refl

  reported : (r : Result Found Refusal) → 2 ≤ length a → FoundOn xs d r → Reported xs d a x (reply_left (found_reply r))
  reported r l h = record {
    short = λ j. absurd (omega (arith, l, j));
    room = λ j. on_image_from reply_left _ _ (λ n z. rw (lt-ltb 0 n z)) report_done h;
  }

  -- what is told of the device found, or of its refusal, is what the answer leaves
  reply_told : (r : Result Found Refusal) → reply_left (found_reply r) ≡ report_told a (report_reply (with_device report_from r))
  reply_told (Ok f) = refl
  reply_told (Err e) = rw (lt-ltb 0 (number e) (omega (arith, number_some e)))

  pub reported_found : 2 ≤ length a → (r : Result Found Refusal) → FoundOn xs d r → (y : Report) → y ≡ report_reply (with_device report_from r)
      → (a' : List ℕ) → a' ≡ y.whole ∷ y.remainder ∷ drop 2 a
      → Reported xs d a x (record { number = y.number; places = a'; difference = y.difference })
  reported_found l r h y k a' e =
      rw e (subst (Reported xs d a x) (reply_told r ∙ ap (report_told a) (sym k)) (reported r l h))
