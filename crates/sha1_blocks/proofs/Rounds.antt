-- The rounds of section 6.1.2, step 3.
--
--   rounds_more    the rounds 0 to m - 1, and n further ones
use Rattle.std.proofs.Common.{◌≡◌, ℕ, zero, suc, ◌+◌, List, add-zero, add_assoc, add-suc, zero-add}
use Rattle.sha1_blocks.specs.declared.Variables.{Variables}
use Rattle.sha1_blocks.specs.Fips180.{rounds}

rounds_add : (W : List ℕ) (v : Variables) (t m n : ℕ) → rounds W v t (m + n) ≡ rounds W (rounds W v t m) (t + m) n
unfolding rounds
rounds_add W v t m zero = rw add-zero
rounds_add W v t m (suc n) = rw (add-suc m n, rounds_add W v t m n, add_assoc t m n)

pub rounds_more : (W : List ℕ) (start : Variables) {v v' : Variables} (m n : ℕ)
    → v ≡ rounds W start 0 m → v' ≡ rounds W v m n → v' ≡ rounds W start 0 (m + n)
rounds_more W start m n e g = rw (rounds_add W start 0 m n, zero-add m, ← e) g
