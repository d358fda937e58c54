-- What is promised on a pool: from what is promised on its lent arrays, where it is valid, and where it is not.
--
-- found_valid (the owner that halving finds in a valid pool is the table's), probe_valid (and of a probe)
-- owner_in, copies_in (on the table of arrays and numbers a lookup is one in these)
-- looked_two, copied_two (a pool that is not valid); looked_in, copied_in (on the arrays of a valid pool the lookups that decide nothing
-- answer as those on the pool do)
use Rattle.std.specs.Prelude.{Result, Ok, Err}
use mathlib.Core.Path.{◌≡◌, refl, ap, ◌∙◌, subst, fun_ext}
use mathlib.Core.Bool.{Bool, true, false, cond}
use mathlib.Core.List.{List}
use Prim.Native.Nat.{ℕ, zero, suc, ◌≤◌, ◌<◌, min}
use native.Mathlib.Omega.{arith}
use lib.Dec.{eqb, leb}
use borrow.Author.Tests.{leb-false, eqb-false}
use Rattle.lookup_core.specs.Halving.{owner_found, clamped}
use Rattle.lookup_core.specs.Probes.{point_of}
use Rattle.lookup_core.specs.Probing.{owner_of}
use Rattle.lookup_core.proofs.Halves.{owner_found_table}
use Rattle.lookup_core.proofs.PointLaws.{point_of_below}
use Rattle.pools.specs.Pools.{state_of, ValidPool}
use Rattle.pools.specs.declared.Pool.{Pool}
use Rattle.pools.proofs.PoolLaws.{total_table_rows}
use Rattle.pools.proofs.ValidParts.{valid_limited, valid_covered}
use Rattle.refusals.specs.Replies.{reply_of}
use Rattle.refusals.specs.declared.Refusal.{Refusal}
use Rattle.refusals.specs.declared.Refusal.TheVariants.{Outside, NoDevice, PointOutside}
use Rattle.slicing.specs.Limits.{max_range}
use Rattle.slicing.specs.Runs.{total, owner_at, Coalesced}
use Rattle.slicing_core.specs.Rows.{at, table_rows}
use Rattle.lookups.specs.Copies.{Outcome, copies_of}
use Rattle.lookups.specs.Promises.{TableOf, owner_answer, LookedIn, Looked, Answered, CopiedIn, Copied}
use Rattle.lookups.specs.declared.CopiesAnswer.{CopiesAnswer}
use Rattle.lookups.specs.declared.Counters.{Counters}
use Rattle.lookups.specs.declared.Table.{Table}
use Rattle.lookups.proofs.CopyAnswers.{Refusing, refuses_two}
use Rattle.lookups.proofs.Replies.{owner_reply_answer}

-- a table that covers a range has an interval, and its first begins at 0
first_start : (p o : List ℕ) (R q : ℕ) → 1 ≤ R → Coalesced eqb (table_rows p o R 0 q) → total (table_rows p o R 0 q) ≡ R → (1 ≤ q) × (at p 0 ≡ 0)
first_start p o R zero l h t = absurd (omega arith)
first_start p o R (suc q) l h t = (omega arith, omega (arith, total_table_rows p o R 0 q h))

pub found_valid : (p : Pool) → ValidPool p → 1 ≤ p.devices → (x : ℕ) → x < p.range
    → owner_found p.starts p.owners (clamped p.intervals) x ≡ owner_at (state_of p).table x
unfolding state_of
found_valid p v h x l =
    let c = valid_covered p v h in
    let m = valid_limited p v in
    let f = first_start p.starts p.owners p.range p.intervals m.some c.coalesced c.covers in
    let e : clamped p.intervals ≡ p.intervals = omega (arith, m.fits, m.room_most) in
    rw e (owner_found_table p.starts p.owners p.range p.intervals x f.0 c.coalesced f.1 l)

probe_valid : (p : Pool) → ValidPool p → 1 ≤ p.devices → (block : ℕ)
    → owner_of p.starts p.owners p.intervals (min p.range max_range) block ≡ (λ t. owner_at (state_of p).table (point_of block t p.range))
probe_valid p v h block =
    let m = valid_limited p v in
    let e : min p.range max_range ≡ p.range = omega (arith, m.most) in
    rw e (fun_ext (λ t. found_valid p v h (point_of block t p.range) (point_of_below block t p.range m.some)))

-- ---- on the table of arrays and numbers a lookup is one in these

module _ {t : Table} {s o : List ℕ} {q n R : ℕ} (e : TableOf t s o q n R) where
  pub owner_in : {x : ℕ} {r : Result ℕ Refusal} → LookedIn t.columns.starts.now t.columns.owners.now t.columns.intervals t.devices t.range x r
      → LookedIn s o q n R x r
  owner_in h = rw (e.starts, e.owners, e.intervals, e.devices, e.range) at h

  pub copies_in : {block k : ℕ} {c : Counters} {r : CopiesAnswer}
      → CopiedIn t.columns.starts.now t.columns.owners.now t.columns.intervals t.devices t.range block k c r → CopiedIn s o q n R block k c r
  copies_in h = rw (e.starts, e.owners, e.intervals, e.devices, e.range) at h

-- ---- the owner of a point

looked : {p : Pool} {x : ℕ} (r : Result ℕ Refusal) → (ValidPool p → r ≡ owner_answer p.range p.devices x (owner_at (state_of p).table x))
    → ((ValidPool p → ⊥) → r ≡ Err Outside) → Looked p x r
looked {p} {x} r v i = record {
  valid = v;
  reply = λ h. ap reply_of (v h) ∙ owner_reply_answer p.range p.devices x (owner_at (state_of p).table x);
  invalid = i;
  invalid_reply = λ h. ap reply_of (i h);
}

pub looked_two : {p : Pool} {x : ℕ} → (ValidPool p → ⊥) → Looked p x (Err Outside)
looked_two n = looked (Err Outside) (λ v. absurd (n v)) (λ h. refl)

pub looked_in : (p : Pool) → ValidPool p → (x : ℕ) (r : Result ℕ Refusal) → LookedIn p.starts p.owners p.intervals p.devices p.range x r → Looked p x r
looked_in p v x r k = looked r (λ h. k.answer ∙ same (leb p.range x) (eqb p.devices 0) refl refl) (λ n. absurd (n v))
  where
    same : (a b : Bool) → leb p.range x ≡ a → eqb p.devices 0 ≡ b
        → cond a (Err PointOutside) (cond b (Err NoDevice) (Ok (owner_found p.starts p.owners (clamped p.intervals) x)))
        ≡ cond a (Err PointOutside) (cond b (Err NoDevice) (Ok (owner_at (state_of p).table x)))
    same true b e f = refl
    same false true e f = refl
    same false false e f = ap Ok (found_valid p v (omega (arith, eqb-false p.devices 0 f)) x (leb-false p.range x e))

-- ---- copies

pub copied_two : {p : Pool} {block k : ℕ} {c : Counters} {r : CopiesAnswer} → (ValidPool p → ⊥) → Refusing 2 0 c r → Copied p block k c r
copied_two n h = record { valid = λ v. absurd (n v); invalid = λ i. refuses_two h }

pub copied_in : (p : Pool) → ValidPool p → (block k : ℕ) (c : Counters) (r : CopiesAnswer)
    → CopiedIn p.starts p.owners p.intervals p.devices p.range block k c r → Copied p block k c r
copied_in p v block k c r a = record {
  valid = λ h. subst (λ (u : Outcome). Answered u c r) (same p.devices refl) a.found;
  invalid = λ n. absurd (n v);
}
  where
    -- without a device the owners don't count
    same : (n : ℕ) → p.devices ≡ n
        → copies_of (owner_of p.starts p.owners p.intervals (min p.range max_range) block) p.devices k
        ≡ copies_of (λ t. owner_at (state_of p).table (point_of block t p.range)) p.devices k
    same zero e = rw e
    same (suc n) e = ap (λ o. copies_of o p.devices k) (probe_valid p v (omega arith) block)
