-- What a reader expects of the rules, each as a theorem that stands on the definitions alone.
--
-- SHA-1: schedule_eighty, schedule_block, schedule_word (each word of the message schedule is the standard's), whole_blocks
-- shares: share_counted (the literal rule), share_computed (as it is computed), share_near (how far from R × c / C), share_after_add, share_after_remove,
--   share_after_growth, share_after_shrinking
-- sizes at the limits: product_fits, sum_fits, capacity_fits, text_fits
-- order of the checks: two_first, five_before_seven, four_before_six, eight_before_nine; largest_capacity
-- copies: copies_distinct, copies_first, copies_prefix, copies_owner; counters_fresh
-- images: read_image, read_written, read_written_front, image_accepted, written_read, written_read_front, images_differ
-- texts: line_for_line, line_count_lem, text_parts, text_printed; texts_joined, texts_printed, texts_both; refused_stays, refused_dropped,
-- accepted_alone, same_text, same_accepted
use mathlib.Core.Path.{◌≡◌, sym, ◌∙◌}
use mathlib.Core.List.{List, [], ◌∷◌, ◌++◌, Memᴰ}
use Prim.Native.Nat.{ℕ, suc, ◌+◌, ◌*◌, ◌-◌, ◌/◌, ◌^◌, ◌≤◌, ◌<◌, min}
use lib.Bits.{bit_xor}
use lib.ListN.{length, get_or, take, drop}
use Rattle.sha1_blocks.specs.Fips180.{ROTL, schedule, pad, N}
use Rattle.sha1_blocks.proofs.Padding as Padding
use Rattle.sha1_blocks.proofs.Schedule as Schedule
use Rattle.slicing.specs.Changes.{fresh, Change, add, remove, resize, change}
use Rattle.slicing.specs.Devices.{Device, capacities, insert, delete, update, Rising}
use Rattle.slicing.specs.GreatestDivisors.{among}
use Rattle.slicing.specs.LowerQuota.{lower_quota}
use Rattle.slicing.specs.Runs.{count, intervals}
use Rattle.slicing.specs.ShareRule.{shares, share_of}
use Rattle.slicing.proofs.Cases as Cases
use Rattle.slicing.proofs.Cases.{after, next, full}
use Rattle.slicing.proofs.Devices.{rising_least}
use Rattle.slicing.proofs.Limits as Limits
use Rattle.slicing.proofs.LowerQuota.{lower_quota_greatest_divisors}
use Rattle.slicing.proofs.Quotients.{share_further}
use Rattle.slicing.proofs.ShareRule as Shares
use Rattle.pools.specs.Pools.{state_of, pool_of, ValidPool}
use Rattle.pools.specs.declared.Pool.{Pool}
use Rattle.pools.specs.declared.PoolAnswer.{PoolAnswer}
use Rattle.lookup_core.specs.Probes.{choose}
use Rattle.lookup_core.proofs.Choosing as Choosing
use Rattle.lookup_core.proofs.Choosing.{firsts, Probed}
use Rattle.lookups.specs.CounterLists.{Lookup, Kept, accepted, probes_of, left}
use Rattle.lookups.specs.declared.Counters.{Counters}
use Rattle.lookups.proofs.CounterLists as Counted
use Rattle.image_numbers.specs.Format.{image_of}
use Rattle.std.specs.Prelude.{Result, Ok}
use Rattle.refusals.specs.declared.Refusal.{Refusal}
use Rattle.images.specs.Promises.{ReadAs, WrittenAs}
use Rattle.images.proofs.RoundTrips as RoundTrips
use Rattle.slicing_core.specs.Rows.{at}
use Rattle.history_lines.specs.Lines.{line_in}
use Rattle.history_numbers.specs.Text.{split}
use Rattle.history_numbers.proofs.NumberWords as NumberWords
use Rattle.history_lines.specs.declared.lines.HistoryLine.{HistoryLine}
use Rattle.history_steps.specs.Steps.{Reading, start, applied}
use Rattle.history.specs.Histories.{last_of, lines_of, text_of, Complete, line_ends, line_count, read_all, pool_after, accepted_lines, printed_lines, unfinished}
use Rattle.history.specs.Replay.{replay, replayed, transcript, printed_table}
use Rattle.history.proofs.PrintedLines as PrintedLines
use Rattle.history.proofs.ReplayLaws as ReplayLaws
use Rattle.history.proofs.TextLines as TextLines

-- ---- SHA-1

-- Wish 3: 'all eighty schedule words .. each proved to be the standard's', section 6.1.2, step 1
module _ (M : List ℕ) (sixteen : length M ≡ 16) where
  abbrev W : ℕ → ℕ
  W t = get_or (schedule M 64) t 0

  pub schedule_eighty : length (schedule M 64) ≡ 80
  schedule_eighty = Schedule.length_schedule M sixteen 64

  -- W_t = M_t, 0 ≤ t ≤ 15
  pub schedule_block : (t : ℕ) → t < 16 → W t ≡ get_or M t 0
  schedule_block = Schedule.schedule_block M sixteen 64

  -- W_t = ROTL^1(W_(t-3) ⊕ W_(t-8) ⊕ W_(t-14) ⊕ W_(t-16)), 16 ≤ t ≤ 79
  pub schedule_word : (t : ℕ) → 16 ≤ t → t < 80 → W t ≡ ROTL 1 (bit_xor (bit_xor (bit_xor (W (t - 3)) (W (t - 8))) (W (t - 14))) (W (t - 16)))
  schedule_word = Schedule.schedule_next M sixteen 64

-- a padded message is a whole number of blocks of 64 bytes
pub whole_blocks : (m : List ℕ) → 64 * N m ≡ length (pad m)
whole_blocks = Padding.whole_blocks

-- ---- shares

module _ (R : ℕ) (ds : List Device) (r : Rising 0 ds) (e : Device) (m : Memᴰ e ds) where
  -- 'A device's share is how many of its quotients are among the first R', with any number of quotients from R on formed of each device
  pub share_counted : (n : ℕ) → R ≤ n → share_of R ds e.id ≡ among n R ds e
  share_counted n l = Shares.share_of_share R ds r e m ∙ sym (share_further n R ds e m (rising_least 0 ds r m) l)

  -- it is at least R × c / C rounded down, and less than n above R × c / C
  pub share_near : (R * e.capacity / capacities ds ≤ share_of R ds e.id)
      × (capacities ds * share_of R ds e.id < R * e.capacity + length ds * capacities ds)
  share_near = (Shares.share_of_floor R ds r e m, Shares.share_of_below R ds r e m)

-- the rule as it is computed: each device from its lower quota on, the points left over one by one
pub share_computed : (R : ℕ) (ds : List Device) → Rising 0 ds → 1 ≤ length ds → shares R ds ≡ lower_quota R ds
unfolding shares
share_computed R ds r l = sym (lower_quota_greatest_divisors R ds r l)

-- where a disk comes or grows no other share grows; where it goes or shrinks none shrinks
module _ (R : ℕ) (ds : List Device) (x d : ℕ) (other : x ≡ d → ⊥) where
  pub share_after_add : (c : ℕ) → share_of R (insert d c ds) x ≤ share_of R ds x
  share_after_add c = Shares.share_of_insert R x d c ds other

  pub share_after_remove : share_of R ds x ≤ share_of R (delete d ds) x
  share_after_remove = Shares.share_of_delete R x d ds other

module _ (R : ℕ) (ds : List Device) (r : Rising 0 ds) (e : Device) (m : Memᴰ e ds) (c : ℕ) where
  pub share_after_growth : e.capacity ≤ c
      → (share_of R ds e.id ≤ share_of R (update e.id c ds) e.id) × ((x : ℕ) → (x ≡ e.id → ⊥) → share_of R (update e.id c ds) x ≤ share_of R ds x)
  share_after_growth l = (Shares.share_of_raise_own R ds r e m c l, Shares.share_of_raise R ds r e m c l)

  pub share_after_shrinking : 1 ≤ c → c ≤ e.capacity
      → (share_of R (update e.id c ds) e.id ≤ share_of R ds e.id) × ((x : ℕ) → (x ≡ e.id → ⊥) → share_of R ds x ≤ share_of R (update e.id c ds) x)
  share_after_shrinking k l = (Shares.share_of_lower_own R ds r e m c k l, Shares.share_of_lower R ds r e m c l)

-- ---- sizes at the limits: R to 2^32, 256 devices, capacities to 16,000,000 (Wish 1)

-- what a share divides by C, far inside 64 bits
pub product_fits : {R c : ℕ} → R ≤ 4294967296 → c ≤ 16000000 → R * c ≤ 68719476736000000
product_fits = Limits.product_size

-- C
pub sum_fits : (ds : List Device) → Rising 0 ds → length ds ≤ 256 → capacities ds ≤ 4096000000
sum_fits = Limits.sum_size

-- the four bytes of a capacity in an image
pub capacity_fits : {c : ℕ} → c ≤ 16000000 → c < 2 ^ 32
capacity_fits = Limits.capacity_size

-- the largest text of a capacity, `9999999999.999`, is far inside 64 bits
pub text_fits : {whole rest : ℕ} → whole < 10 ^ 10 → rest < 1000 → 1000 * whole + rest ≤ 9999999999999
text_fits = NumberWords.text_size

-- ---- 'Checks run down the table; the first that applies counts'

-- three devices of one capacity
abbrev pub three : List Change
three = add 1 1000 ∷ add 2 1000 ∷ add 3 1000 ∷ []

pub two_first : ((next (fresh 100 16) three (add 1 0)).number ≡ 2) × ((next (fresh 100 16) three (remove 65536)).number ≡ 2)
    × ((next (fresh 100 16) [] (resize 7 16000001)).number ≡ 2)
two_first = Cases.two_first

pub largest_capacity : ((next (fresh 100 16) [] (add 7 16000000)).number ≡ 0) × ((next (fresh 100 16) [] (add 7 16000001)).number ≡ 2)
largest_capacity = Cases.largest_capacity

pub five_before_seven : ((next (fresh 100 16) (add 1 1000 ∷ []) (remove 2)).number ≡ 5) × ((next (fresh 100 16) (add 1 1000 ∷ []) (remove 1)).number ≡ 7)
five_before_seven = Cases.five_before_seven

-- 256 devices
pub four_before_six : ((change full [] (add 256 1)).number ≡ 4) × ((change full [] (add 257 1)).number ≡ 6)
four_before_six = Cases.four_before_six

-- a pool with room for one interval and a list without places
pub eight_before_nine : ((change (after (fresh 100 1) (add 1 1000 ∷ [])) [] (add 2 1000)).number ≡ 8)
    × ((change (after (fresh 100 2) (add 1 1000 ∷ [])) [] (add 2 1000)).number ≡ 9)
eight_before_nine = Cases.eight_before_nine

-- ---- copies: o t owns the point of probe t

module _ (o : ℕ → ℕ) (k : ℕ) (l : 1 ≤ k) where
  -- no owner is chosen twice
  pub copies_distinct : (d : ℕ) → count d (choose o k).owners ≤ 1
  copies_distinct d = Choosing.choose_distinct o k l d

  -- they are the first k different owners in the order of the probes
  pub copies_first : (choose o k).owners ≡ take k (firsts o 256)
  copies_first = Choosing.choose_firsts o k l

  -- copies of one more begin with these
  pub copies_prefix : take k (choose o (suc k)).owners ≡ (choose o k).owners
  copies_prefix = Choosing.choose_prefix o k l

-- each of them owns the point of one of the first n probes
pub copies_owner : (o : ℕ → ℕ) (n d : ℕ) → 1 ≤ count d (firsts o n) → Probed o n d
copies_owner = Choosing.firsts_owner

-- 'A tally begins with two zeros and adds 1 lookup and those tries for each accepted lookup; both stay at 4,294,967,295'
pub counters_fresh : (c : Counters) → c.lookups ≡ 0 → c.probes ≡ 0 → (ts : List Lookup) → Kept c ts
    → ((left c ts).lookups ≡ min (accepted ts) 4294967295) × ((left c ts).probes ≡ min (probes_of ts) 4294967295)
counters_fresh = Counted.counters_fresh

-- ---- images: the elements of a slice of bytes are below 256

module _ (xs : List ℕ) (b : (i : ℕ) → at xs i < 256) (r : PoolAnswer) (a : ReadAs xs r) (z : r.refusal ≡ 0) where
  -- what is read is valid, and its image is the bytes read
  pub read_image : ValidPool r.pool × (image_of (state_of r.pool) ≡ xs)
  read_image = (RoundTrips.accepted_valid xs r a z, RoundTrips.accepted_image xs b r a z)

  -- written into a buffer of its length it gives the same bytes
  pub read_written : (buffer : List ℕ) → length buffer ≡ length xs → (w : Result ℕ Refusal) (after : List ℕ) → WrittenAs r.pool buffer w after
      → (w ≡ Ok (length xs)) × (after ≡ xs)
  read_written = RoundTrips.read_written xs b r a z

  -- .. and into any buffer with room the same bytes in front
  pub read_written_front : (buffer : List ℕ) → length xs ≤ length buffer → (w : Result ℕ Refusal) (after : List ℕ) → WrittenAs r.pool buffer w after
      → (w ≡ Ok (length xs)) × (after ≡ xs ++ drop (length xs) buffer)
  read_written_front = RoundTrips.read_written_front xs b r a z

module _ (p : Pool) (v : ValidPool p) where
  -- the image of a valid pool is read as that pool
  pub image_accepted : (r : PoolAnswer) → ReadAs (image_of (state_of p)) r → r ≡ record { refusal = 0; pool = p }
  image_accepted = RoundTrips.image_accepted p v

  -- written into a buffer with room, and read
  pub written_read : (buffer : List ℕ) (w : Result ℕ Refusal) (after : List ℕ) → WrittenAs p buffer w after → length (image_of (state_of p)) ≤ length buffer
      → (r : PoolAnswer) → ReadAs (take (length (image_of (state_of p))) after) r
      → (w ≡ Ok (length (image_of (state_of p)))) × (r ≡ record { refusal = 0; pool = p })
  written_read buffer w after h = RoundTrips.written_read p v buffer w after h

  -- .. from as many bytes as the write answers
  pub written_read_front : (buffer : List ℕ) (w : Result ℕ Refusal) (after : List ℕ) → WrittenAs p buffer w after → (n : ℕ) → w ≡ Ok n
      → (r : PoolAnswer) → ReadAs (take n after) r → r ≡ record { refusal = 0; pool = p }
  written_read_front buffer w after h = RoundTrips.written_read_front p v buffer w after h

-- two valid pools with one image are one
pub images_differ : (p q : Pool) → ValidPool p → ValidPool q → image_of (state_of p) ≡ image_of (state_of q) → p ≡ q
images_differ = RoundTrips.images_differ

-- ---- texts: 0A hexadecimal ends a line

-- a line is printed for each line of a text, one for `table`, and one for each interval
pub line_for_line : (xs : List ℕ) → line_ends (replayed xs) ≡ line_count (split 0x0a xs) + 1 + length (intervals 0 (pool_after xs).table)
line_for_line = PrintedLines.line_ends_replayed

-- a text whose last line is finished has as many lines as line ends
pub line_count_lem : (xs : List ℕ) → Complete xs → line_count (split 0x0a xs) ≡ line_ends xs
line_count_lem = TextLines.line_count_complete

-- the parts of a transcript: the lines, an unfinished last line, the table
pub text_parts : (xs : List ℕ)
    → replayed xs
    ≡ printed_lines start 1 (lines_of xs) ++ unfinished (1 + length (lines_of xs)) (last_of (split 0x0a xs)) ++ printed_table (pool_after xs)
text_parts = ReplayLaws.replayed_text

pub text_printed : (xs : List ℕ) → length xs ≤ 65536 → transcript xs ≡ replayed xs
text_printed = ReplayLaws.transcript_replayed

-- replaying a text and then another is replaying both joined
module _ (xs ys : List ℕ) (c : Complete xs) where
  pub texts_joined : read_all start (lines_of (xs ++ ys)) ≡ read_all (read_all start (lines_of xs)) (lines_of ys)
  texts_joined = ReplayLaws.reading_join xs ys c

  -- the lines of the second are counted on
  pub texts_printed : replayed (xs ++ ys)
      ≡ printed_lines start 1 (lines_of xs) ++ replay (read_all start (lines_of xs)) (1 + length (lines_of xs)) (split 0x0a ys)
  texts_printed = ReplayLaws.replayed_join xs ys c

  pub texts_both : Complete ys
      → replayed (xs ++ ys)
      ≡ printed_lines start 1 (lines_of xs) ++ printed_lines (read_all start (lines_of xs)) (1 + length (lines_of xs)) (lines_of ys)
      ++ printed_table (pool_after (xs ++ ys))
  texts_both = ReplayLaws.replayed_both xs ys c

-- 'A refused line changes nothing and reading goes on.'
pub refused_stays : (h : Reading) (l : Result HistoryLine Refusal) → 1 ≤ (applied h l).number → (applied h l).after ≡ h
refused_stays = ReplayLaws.refused_stays

pub refused_dropped : (h : Reading) (ps : List (List ℕ)) (p : List ℕ) (qs : List (List ℕ)) → 1 ≤ (applied (read_all h ps) (line_in p)).number
    → read_all h (ps ++ p ∷ qs) ≡ read_all h (ps ++ qs)
refused_dropped = ReplayLaws.refused_dropped

-- the accepted lines alone give the same pool
pub accepted_alone : (xs : List ℕ) → pool_after (text_of (accepted_lines start (lines_of xs))) ≡ pool_after xs
accepted_alone = ReplayLaws.text_accepted

-- two controllers that replay the same text, or texts with the same accepted lines, hold the same pool
pub same_text : (xs ys : List ℕ) → xs ≡ ys → pool_of (pool_after xs) ≡ pool_of (pool_after ys)
same_text = ReplayLaws.same_text

pub same_accepted : (xs ys : List ℕ) → accepted_lines start (lines_of xs) ≡ accepted_lines start (lines_of ys)
    → pool_of (pool_after xs) ≡ pool_of (pool_after ys)
same_accepted = ReplayLaws.same_accepted
