-- The outcomes of `sha1_digest::digest` and `first_word`.
--
-- digest: digest_long (2), digest_hashed
-- first_word: first_word (the first word that `digest` answers for the twelve bytes)
use mathlib.Core.Path.{◌≡◌, refl, sym, ap, ◌∙◌}
use mathlib.Core.List.{List, [], ◌∷◌, ◌++◌}
use Prim.Native.Nat.{ℕ, ◌≤◌, ◌<◌}
use native.Mathlib.Omega.{arith}
use lib.ListN.{length, get_or}
use borrow.Author.Tests.{lt-ltb, le-ltb}
use Rattle.sha1_blocks.specs.Fips180.{bytes, digest}
use Rattle.std.specs.Prelude.{Result, Ok, Err}
use Rattle.refusals.specs.declared.Refusal.{Refusal}
use Rattle.refusals.specs.declared.Refusal.TheVariants.{Outside}
use Rattle.sha1_digest.specs.Promises.{DigestReply, digest_reply, Digested}

-- the number and the words of an answer
abbrev pub Hashes : DigestReply → ℕ → List ℕ → Type 0
Hashes u n ws = (u.number ≡ n) × (u.words ≡ ws)

module _ (m : List ℕ) (r : Result (List ℕ) Refusal) (k : Digested m r) where
  -- over 65,536 bytes: 2 and five zeros
  pub digest_long : 65536 < length m → (r ≡ Err Outside) × Hashes (digest_reply r) 2 (0 ∷ 0 ∷ 0 ∷ 0 ∷ 0 ∷ [])
  digest_long h = let e = lt-ltb 65536 (length m) h in (rw e at k.answer, (rw e at k.number, rw e at k.words))

  -- else 0 and the digest of FIPS 180-4
  pub digest_hashed : length m ≤ 65536 → (r ≡ Ok (digest m)) × Hashes (digest_reply r) 0 (digest m)
  digest_hashed h = let e = le-ltb 65536 (length m) h in (rw e at k.answer, (rw e at k.number, rw e at k.words))

pub first_word : (high low w : ℕ) → w ≡ get_or (digest (bytes 8 high ++ bytes 4 low)) 0 0
    → (r : Result (List ℕ) Refusal) → Digested (bytes 8 high ++ bytes 4 low) r → w ≡ get_or (digest_reply r).words 0 0
first_word high low w e r k =
    let n : length (bytes 8 high ++ bytes 4 low) ≡ 12 = refl in
    e ∙ ap (λ ws. get_or ws 0 0) (sym (digest_hashed (bytes 8 high ++ bytes 4 low) r k (omega (arith, n))).1.1)
