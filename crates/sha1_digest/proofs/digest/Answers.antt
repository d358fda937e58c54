-- `sha1_digest::digest` meets its contract: the test says which arm of `cond` stands.
use mathlib.Core.Bool.{true, false}
use mathlib.Core.Path.{◌≡◌, refl, ap}
use native.Mathlib.Omega.{arith}
use lib.ListN.{length}
use borrow.Author.Tests.{lt-ltb, le-ltb}
use Rattle.std.specs.Prelude.{Ok}
use Rattle.sha1_blocks.specs.Fips180.{digest, words_of}
use Rattle.sha1_digest.specs.Promises.{limit, refused}
use Rattle.sha1_digest.proofs.digest.Goals as goal

pub returns-then-message-gt-LIMIT : goal.returns-then-message-gt-LIMIT
returns-then-message-gt-LIMIT c =
    let t : refused c.args.message.now ≡ true = lt-ltb limit (length c.args.message.now) (omega arith) in
    record { answer = rw t refl; number = rw t refl; words = rw t refl }

pub returns : goal.returns
unfolding digest
returns c =
    let t : refused c.args.message.now ≡ false = le-ltb limit (length c.args.message.now) (omega arith) in
    record { answer = rw t (ap (λ h. Ok (words_of h)) c.hash-h.ensures); number = rw t refl; words = rw t (ap words_of c.hash-h.ensures) }
