-- The outcomes of `lookups::point`, `owner`, `owner_of`, `Table::owner`, `copies`, `copies_of` and `Table::copies`. A lookup has the pool behind a shared
-- reference, or by value: it stays.
--
--   Fails n t c r            r answers the refusal n, eight zeros, t probes and the counters c as they were
--   Finds o k c r            r answers 0, the first k different owners in probe order and then zeros, the probes, and the counters that count them
--   owners_of p block         who owns the point of each probe, by the table of a valid pool
--   halved_in s o q R block   the same on arrays of any contents: the owner that halving finds
-- point: point_late (2, a probe above 255), point_outside (2), point_inside
-- Table::owner, on any contents: arrays_outside (13), arrays_none (10), arrays_owner
-- owner: owner_invalid (2, a pool that is not valid), owner_outside (13), owner_none (10), owner_in (the owner of the interval that holds
-- the point, which is one: one_owner); owner_same (on the arrays of a valid pool Table::owner answers as owner does)
-- copies: copies_invalid (2), copies_outside (11), copies_none (10), copies_few (12), copies_found; copies_same (as owner_same)
-- Table::copies, on any contents: lent_outside (11), lent_none (10), lent_few (12), lent_found
use mathlib.Core.Path.{◌≡◌, ap, ◌∙◌, sym}
use mathlib.Core.List.{List, [], ◌∷◌, ◌++◌}
use Prim.Native.Nat.{ℕ, ◌+◌, ◌-◌, ◌≤◌, ◌<◌, min}
use native.Mathlib.Nat.{sub-zero}
use native.Mathlib.Omega.{arith}
use lib.ListN.{length, take, replicate}
use borrow.Author.Tests.{lt-ltb, le-ltb, le-leb, lt-leb, eq-eqb, ne_eqb}
use Rattle.slicing.specs.Runs.{owner_at}
use Rattle.slicing.proofs.Intervals.{intervals_owner}
use Rattle.slicing_core.specs.Rows.{at}
use Rattle.pools.specs.Pools.{state_of, ValidPool}
use Rattle.pools.specs.declared.Pool.{Pool}
use Rattle.lookup_core.specs.Halving.{owner_found}
use Rattle.lookup_core.specs.Probes.{point_of, choose}
use Rattle.lookup_core.specs.Probing.{owner_of}
use Rattle.lookup_core.proofs.Choosing.{firsts}
use Rattle.lookups.specs.Copies.{Outcome, copies_of}
use Rattle.std.specs.Prelude.{Result, Ok, Err}
use Rattle.refusals.specs.Replies.{reply_of}
use Rattle.refusals.specs.declared.Refusal.{Refusal}
use Rattle.refusals.specs.declared.Refusal.TheVariants.{Outside, NoDevice, PointOutside}
use Rattle.lookups.specs.Promises.{Located, LookedIn, Looked, Answered, CopiedIn, Copied}
use Rattle.lookups.specs.declared.CopiesAnswer.{CopiesAnswer}
use Rattle.lookups.specs.declared.Counters.{Counters}
use Rattle.lookups.proofs.Promised.{looked_in, copied_in}
use Rattle.demand3.specs.Points.{Lies, OneInterval}
use Rattle.demand3.proofs.Tables.{one_interval}
use Rattle.guarantees.proofs.CopyRules.{NoCopies, eleven, ten, twelve, HasCopies, no_copies, has_copies, no_copies_number}
use Rattle.guarantees.proofs.Conditions.{Inside, inside_false, inside_true, Says, says, length_devices}

-- ---- the point of a probe

module _ (block t R : ℕ) (r : Result ℕ Refusal) (k : Located block t R r) where
  -- a probe above 255
  pub point_late : 255 < t → (r ≡ Err Outside) × Says (reply_of r) 2 0
  point_late h = let e = lt-ltb 255 t h in (k.answer ∙ rw e, says (k.reply ∙ rw e))

  module _ (l : t ≤ 255) where
    -- a range outside 1 to 4,294,967,296
    pub point_outside : (Inside 4294967296 R → ⊥) → (r ≡ Err Outside) × Says (reply_of r) 2 0
    point_outside h =
        let e = le-ltb 255 t l in
        let f = inside_true 4294967296 R h in
        (k.answer ∙ rw (e, f), says (k.reply ∙ rw (e, f)))

    pub point_inside : Inside 4294967296 R → (r ≡ Ok (point_of block t R)) × Says (reply_of r) 0 (point_of block t R)
    point_inside i =
        let e = le-ltb 255 t l in
        let f = inside_false 4294967296 R i in
        (k.answer ∙ rw (e, f), says (k.reply ∙ rw (e, f)))

-- ---- the owner of a point

module _ (s o : List ℕ) (q n R x : ℕ) (r : Result ℕ Refusal) (k : LookedIn s o q n R x r) where
  pub arrays_outside : R ≤ x → (r ≡ Err PointOutside) × Says (reply_of r) 13 0
  arrays_outside h = let e = le-leb R x h in (k.answer ∙ rw e, says (k.reply ∙ rw e))

  module _ (l : x < R) where
    pub arrays_none : n ≡ 0 → (r ≡ Err NoDevice) × Says (reply_of r) 10 0
    arrays_none h =
        let e = lt-leb R x l in
        let f = eq-eqb n 0 h in
        (k.answer ∙ rw (e, f), says (k.reply ∙ rw (e, f)))

    pub arrays_owner : 1 ≤ n
        → (r ≡ Ok (owner_found s o (min q 4096) x)) × Says (reply_of r) 0 (owner_found s o (min q 4096) x)
    arrays_owner h =
        let e = lt-leb R x l in
        let f = ne_eqb n 0 (λ z. omega (arith, z, h)) in
        (k.answer ∙ rw (e, f), says (k.reply ∙ rw (e, f)))

-- each point of a valid pool with a device lies in exactly one interval, whose owner is the table's
pub one_owner : (p : Pool) → ValidPool p → 1 ≤ p.devices → (x : ℕ) → x < p.range → OneInterval p x (owner_at (state_of p).table x)
unfolding state_of
one_owner p v some x l =
    one_interval p v x (owner_at (state_of p).table x)
    (rw sub-zero at (intervals_owner 0 x (state_of p).table (omega arith) (omega (arith, v.valid.covers (omega (arith, length_devices p))))))

module _ (p : Pool) (x : ℕ) (r : Result ℕ Refusal) (k : Looked p x r) where
  -- a pool that is not valid, before any other refusal
  pub owner_invalid : (ValidPool p → ⊥) → (r ≡ Err Outside) × Says (reply_of r) 2 0
  owner_invalid h = (k.invalid h, says (k.invalid_reply h))

  module _ (v : ValidPool p) where
    -- a point at or above R
    pub owner_outside : p.range ≤ x → (r ≡ Err PointOutside) × Says (reply_of r) 13 0
    owner_outside h = let e = le-leb p.range x h in (k.valid v ∙ rw e, says (k.reply v ∙ rw e))

    module _ (l : x < p.range) where
      -- no device
      pub owner_none : p.devices ≡ 0 → (r ≡ Err NoDevice) × Says (reply_of r) 10 0
      owner_none h =
          let e = lt-leb p.range x l in
          let f = eq-eqb p.devices 0 h in
          (k.valid v ∙ rw (e, f), says (k.reply v ∙ rw (e, f)))

      -- interval i holds the point
      pub owner_in : 1 ≤ p.devices → (i : ℕ) → Lies p i x → (r ≡ Ok (at p.owners i)) × Says (reply_of r) 0 (at p.owners i)
      owner_in some i h =
          let e = lt-leb p.range x l in
          let f = ne_eqb p.devices 0 (λ z. omega (arith, z, some)) in
          let one = one_owner p v some x l in
          let o : owner_at (state_of p).table x ≡ at p.owners i = sym one.owner ∙ ap (at p.owners) (sym (one.only i h)) in
          (k.valid v ∙ rw (e, f, o), says (k.reply v ∙ rw (e, f, o)))

    -- the lookup that decides nothing, on the arrays of the same pool, answers the same
    pub owner_same : (w : Result ℕ Refusal) → LookedIn p.starts p.owners p.intervals p.devices p.range x w → w ≡ r
    owner_same w h = (looked_in p v x w h).valid v ∙ sym (k.valid v)

-- ---- copies

abbrev pub Fails : ℕ → ℕ → Counters → CopiesAnswer → Type 0
Fails n t c r = (r.refusal ≡ n) × (r.owners ≡ 0 ∷ 0 ∷ 0 ∷ 0 ∷ 0 ∷ 0 ∷ 0 ∷ 0 ∷ []) × (r.probes ≡ t) × (r.counters ≡ c)

abbrev pub Finds : (ℕ → ℕ) → ℕ → Counters → CopiesAnswer → Type 0
Finds o k c r =
    (r.refusal ≡ 0) × (r.owners ≡ take k (firsts o 256) ++ replicate (8 - k) 0) × (r.probes ≡ (choose o k).probes)
    × (r.counters.lookups ≡ min (c.lookups + 1) 4294967295) × (r.counters.probes ≡ min (c.probes + r.probes) 4294967295)

module _ {o : ℕ → ℕ} {n k : ℕ} {c : Counters} {r : CopiesAnswer} (a : Answered (copies_of o n k) c r) where
  fails : {x t : ℕ} → NoCopies o n k x t → Fails x t c r
  fails {x} {t} h =
      let b = rw (no_copies o n k h) at a in
      let e = ne_eqb x 0 (no_copies_number h) in
      (b.number, b.owners, b.probes, b.counters ∙ rw e)

  finds : HasCopies o n k → Finds o k c r
  finds h =
      let b = rw (has_copies o n k h) at a in
      (b.number, b.owners, b.probes, ap (λ u. u.lookups) b.counters, ap (λ u. u.probes) b.counters ∙ rw b.probes)

abbrev pub owners_of : Pool → ℕ → ℕ → ℕ
owners_of p block t = owner_at (state_of p).table (point_of block t p.range)

-- answers of one outcome, from the same counters, are one
one_answer : {u : Outcome} {c : Counters} {r w : CopiesAnswer} → Answered u c w → Answered u c r → w ≡ r
one_answer a b = same (a.number ∙ sym b.number) (a.owners ∙ sym b.owners) (a.probes ∙ sym b.probes) (a.counters ∙ sym b.counters)
  where
    same : {m n t s : ℕ} {xs ys : List ℕ} {c d : Counters} → m ≡ n → xs ≡ ys → t ≡ s → c ≡ d
        → ◌≡◌ {A = CopiesAnswer} (record { refusal = m; owners = xs; probes = t; counters = c }) (record { refusal = n; owners = ys; probes = s; counters = d })
    same e f g h = rw (e, f, g, h)

module _ (p : Pool) (block k : ℕ) (c : Counters) (r : CopiesAnswer) (h : Copied p block k c r) where
  -- a pool that is not valid, before any other refusal: the counters stay
  pub copies_invalid : (ValidPool p → ⊥) → Fails 2 0 c r
  copies_invalid n = let a = h.invalid n in (a.number, a.owners, a.probes, a.counters)

  module _ (v : ValidPool p) where
    -- k is 0 or above 8
    pub copies_outside : (Inside 8 k → ⊥) → Fails 11 0 c r
    copies_outside l = fails {o = owners_of p block} {n = p.devices} (h.valid v) (eleven l)

    module _ (i : Inside 8 k) where
      -- no device
      pub copies_none : p.devices ≡ 0 → Fails 10 0 c r
      copies_none l = fails (h.valid v) (ten i l)

      module _ (some : 1 ≤ p.devices) where
        -- fewer than k different owners in 256 tries
        pub copies_few : length (firsts (owners_of p block) 256) < k → Fails 12 256 c r
        copies_few l = fails (h.valid v) (twelve i some l)

        pub copies_found : k ≤ length (firsts (owners_of p block) 256) → Finds (owners_of p block) k c r
        copies_found l = finds (h.valid v) (record { asked = i; some = some; enough = l })

    -- the lookup that decides nothing, on the arrays of the same pool, answers the same
    pub copies_same : (w : CopiesAnswer) → CopiedIn p.starts p.owners p.intervals p.devices p.range block k c w → w ≡ r
    copies_same w a = one_answer ((copied_in p v block k c w a).valid v) (h.valid v)

-- on the arrays of a pool
abbrev pub halved_in : List ℕ → List ℕ → ℕ → ℕ → ℕ → ℕ → ℕ
halved_in s o q R block = owner_of s o q (min R 4294967296) block

module _ (s o : List ℕ) (q n R block k : ℕ) (c : Counters) (r : CopiesAnswer) (h : CopiedIn s o q n R block k c r) where
  pub lent_outside : (Inside 8 k → ⊥) → Fails 11 0 c r
  lent_outside l = fails {o = halved_in s o q R block} {n = n} h.found (eleven l)

  module _ (i : Inside 8 k) where
    pub lent_none : n ≡ 0 → Fails 10 0 c r
    lent_none l = fails h.found (ten i l)

    module _ (some : 1 ≤ n) where
      pub lent_few : length (firsts (halved_in s o q R block) 256) < k → Fails 12 256 c r
      lent_few l = fails h.found (twelve i some l)

      pub lent_found : k ≤ length (firsts (halved_in s o q R block) 256) → Finds (halved_in s o q R block) k c r
      lent_found l = finds h.found (record { asked = i; some = some; enough = l })
