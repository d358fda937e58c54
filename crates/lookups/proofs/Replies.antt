-- The replies of the answers, and what the answers are said to be.
--
-- owner_reply_answer; located_answer, looked_answer (what the answer is says what its reply is)
use Rattle.std.specs.Prelude.{Result, Ok, Err}
use mathlib.Core.Path.{◌≡◌, refl, ap, ◌∙◌}
use mathlib.Core.Bool.{Bool, true, false, cond}
use mathlib.Core.List.{List}
use Prim.Native.Nat.{ℕ}
use lib.Dec.{eqb, leb}
use Rattle.refusals.specs.Replies.{reply_of, replied, declined}
use Rattle.refusals.specs.declared.Refusal.{Refusal}
use Rattle.refusals.specs.declared.Refusal.TheVariants.{Outside, NoDevice, PointOutside}
use Rattle.lookup_core.specs.Halving.{owner_found, clamped}
use Rattle.lookup_core.specs.Probes.{point_of}
use Rattle.lookups.specs.Promises.{probe_outside, Located, owner_answer, LookedIn}

pub owner_reply_answer : (R n x d : ℕ) → reply_of (owner_answer R n x d) ≡ cond (leb R x) (declined 13) (cond (eqb n 0) (declined 10) (replied d))
owner_reply_answer R n x d = go (leb R x) (eqb n 0)
  where
    go : (a b : Bool)
        → reply_of (cond a (Err PointOutside) (cond b (Err NoDevice) (Ok d)))
        ≡ cond a (declined 13) (cond b (declined 10) (replied d))
    go true b = refl
    go false true = refl
    go false false = refl

point_reply_answer : (a : Bool) (x : ℕ) → reply_of (cond a (Err Outside) (Ok x)) ≡ cond a (declined 2) (replied x)
point_reply_answer true x = refl
point_reply_answer false x = refl

pub located_answer : {block t R : ℕ} {r : Result ℕ Refusal} → r ≡ cond (probe_outside t R) (Err Outside) (Ok (point_of block t R)) → Located block t R r
located_answer {block} {t} {R} e = record { answer = e; reply = ap reply_of e ∙ point_reply_answer (probe_outside t R) (point_of block t R) }

pub looked_answer : {s o : List ℕ} {q n R x : ℕ} {r : Result ℕ Refusal} → r ≡ owner_answer R n x (owner_found s o (clamped q) x) → LookedIn s o q n R x r
looked_answer {n = n} {R = R} {x = x} e = record { answer = e; reply = ap reply_of e ∙ owner_reply_answer R n x _ }
