-- What `store` and `write` need: the answer, and the buffer afterwards.
--
-- reply_of: write_reply_answer
-- the answer and the buffer: stored_short, stored_whole
-- WrittenAs: written_answer (what the answer is says what its reply is), written_valid
use mathlib.Core.Path.{◌≡◌, refl, ap, ◌∙◌}
use mathlib.Core.Bool.{Bool, true, false, cond}
use mathlib.Core.List.{List, ◌++◌}
use Prim.Native.Nat.{ℕ, ◌+◌, ◌*◌, ◌≤◌, ◌<◌}
use native.Mathlib.Omega.{arith}
use lib.Dec.{ltb}
use lib.ListN.{length, drop}
use borrow.Author.Tests.{lt-ltb, le-ltb}
use Rattle.pools.specs.Pools.{state_of, ValidPool}
use Rattle.pools.specs.declared.Pool.{Pool}
use Rattle.refusals.specs.Replies.{reply_of, replied, declined}
use Rattle.image_numbers.specs.Format.{head_size, image_of}
use Rattle.image_bytes.proofs.WrittenImages.{image_size}
use Rattle.images.specs.Promises.{write_answer, buffer_after, WrittenAs}
use Rattle.std.specs.Prelude.{Result, Ok, Err}
use Rattle.refusals.specs.declared.Refusal.{Refusal}
use Rattle.refusals.specs.declared.Refusal.TheVariants.{Outside, ShortBuffer}

-- ---- the reply of a write

write_reply_answer : (a : Bool) (n : ℕ) → reply_of (cond a (Err ShortBuffer) (Ok n)) ≡ cond a (declined 17) (replied n)
write_reply_answer true n = refl
write_reply_answer false n = refl

written_answer : (p : Pool) (before : List ℕ) (r : Result ℕ Refusal) (after : List ℕ)
    → (ValidPool p → (r ≡ write_answer (state_of p) (length before)) × (after ≡ buffer_after (state_of p) before))
    → ((ValidPool p → ⊥) → (r ≡ Err Outside) × (after ≡ before)) → WrittenAs p before r after
written_answer p before r after v i = record {
  valid = v;
  reply = λ h. ap reply_of (v h).0 ∙ write_reply_answer (ltb (length before) (length (image_of (state_of p)))) (length (image_of (state_of p)));
  invalid = i;
  invalid_reply = λ h. ap reply_of (i h).0;
}

-- ---- the answer and the buffer

module _ (p : Pool) (v : ValidPool p) where
  abbrev n : ℕ
  n = p.devices

  abbrev q : ℕ
  q = p.intervals

  abbrev Stored : List ℕ → Result ℕ Refusal → List ℕ → Type 0
  Stored before r after = (r ≡ write_answer (state_of p) (length before)) × (after ≡ buffer_after (state_of p) before)

  pub stored_short : (before : List ℕ) → length before < head_size + 6 * n + 6 * q → Stored before (Err ShortBuffer) before
  stored_short before h =
      let e = lt-ltb (length before) (length (image_of (state_of p))) (omega (arith, image_size p v)) in
      (rw e, rw e)

  pub stored_whole : (before after : List ℕ) → head_size + 6 * n + 6 * q ≤ length before
      → after ≡ image_of (state_of p) ++ drop (length (image_of (state_of p))) before → Stored before (Ok (head_size + 6 * n + 6 * q)) after
  stored_whole before after h a =
      let e = le-ltb (length before) (length (image_of (state_of p))) (omega (arith, image_size p v)) in
      (rw (e, image_size p v), rw e a)

  pub written_valid : (before : List ℕ) (r : Result ℕ Refusal) (after : List ℕ) → Stored before r after → WrittenAs p before r after
  written_valid before r after h = written_answer p before r after (λ k. h) (λ k. absurd (k v))
