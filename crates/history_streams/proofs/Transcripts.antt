-- What the promise of `history::transcript` says of a buffer with room.
--
--   printed_counts, printed_text   the bytes that it answers are there, and are the transcript
--   refused_never                  it does not refuse
use mathlib.Core.Path.{◌≡◌, ap, ◌∙◌}
use mathlib.Core.List.{List, ◌++◌}
use Prim.Native.Nat.{ℕ, ◌≤◌}
use native.Mathlib.Omega.{arith}
use lib.ListN.{length, take, drop, length-append, length-take}
use lib.Seq.{take_at}
use borrow.Author.Tests.{le-ltb}
use Rattle.streams.specs.Counts.{IsPrefixLen}
use Rattle.history.specs.Promises.{room, Transcribed}
use Rattle.history.specs.Replay.{transcript}
use Rattle.std.specs.Prelude.{Result, Ok, Err}
use Rattle.refusals.specs.declared.Refusal.{Refusal}

module _ (xs before after : List ℕ) (r : Result ℕ Refusal) (h : Transcribed xs before r after) (l : room ≤ length before) where
  answered : r ≡ Ok (length (transcript xs))
  answered = h.answer ∙ rw (le-ltb (length before) room l)

  filled : after ≡ transcript xs ++ drop (length (transcript xs)) before
  filled = h.buffer ∙ rw (le-ltb (length before) room l)

  size : (n : ℕ) → r ≡ Ok n → length (transcript xs) ≡ n
  size n e = cc answered

  pub printed_counts : (n : ℕ) → r ≡ Ok n → IsPrefixLen n after
  printed_counts n e =
      let m : n ≤ length after = omega (arith, size n e, ap length filled, length-append (transcript xs) (drop (length (transcript xs)) before)) in
      (m, simp length-take (omega arith))

  pub printed_text : (n : ℕ) → r ≡ Ok n → take n after ≡ transcript xs
  printed_text n e = ap (λ ys. take n ys) filled ∙ take_at (transcript xs) (drop (length (transcript xs)) before) n (size n e)

  pub refused_never : (x : Refusal) → r ≡ Err x → ⊥
  refused_never x e = let z : ◌≡◌ {A = ℕ} 0 1 = cc answered in omega (arith, z)
