-- Laws of the probing for copies: what `chosen` and the loop of `probe_owners` need.
--
--   Probing s o n R block k list found t     after t probes, fewer than k owners are chosen: they stand in the list, then zeros, and the
--                                            probing from there on is the whole probing
--
-- member: any_member (an element that equals an owner)
-- choose_from: choose_from_again, choose_from_last, choose_from_more, choose_from_end (one probe, and none left)
-- Probing: probing_start, probing_again, probing_more; probing_end, probing_last (the answer)
use mathlib.Core.Path.{◌≡◌, refl, sym, ◌∙◌}
use mathlib.Core.Bool.{Bool, true, false}
use mathlib.Core.List.{List, [], ◌∷◌, ◌++◌}
use Prim.Native.Nat.{ℕ, suc, ◌+◌, ◌-◌, ◌≤◌, ◌<◌}
use native.Mathlib.Omega.{arith}
use native.Mathlib.Numerals.{add-one}
use lib.Dec.{eqb}
use lib.ListN.{length, take, set, replicate, length-append}
use lib.Seq.{append_snoc, take_at, set_at}
use borrow.Author.Tests.{le-leb, lt-leb}
use Rattle.std.specs.List.{list_any}
use Rattle.slicing.proofs.Counting.{eqb_sym}
use Rattle.lookup_core.specs.Probes.{member, choose_from, choose}
use Rattle.lookup_core.specs.Probing.{ProbesAnswered, owner_of}

-- ---- member

pub any_member : (d : ℕ) (xs : List ℕ) → list_any (λ y. eqb y d) xs ≡ member d xs
any_member d [] = refl
any_member d (e ∷ xs) = rw (eqb_sym e d, any_member d xs)

-- ---- choose_from

module _ (o : ℕ → ℕ) (k p t : ℕ) (cs : List ℕ) where
  module _ (h : t < p) where
    left : p - t ≡ suc (p - (t + 1))
    left = omega arith

    pub choose_from_again : member (o t) cs ≡ true → choose_from o k (p - t) t cs ≡ choose_from o k (p - (t + 1)) (t + 1) cs
    choose_from_again m = rw (left, m, add-one t)

    module _ (m : member (o t) cs ≡ false) where
      pub choose_from_last : k ≤ suc (length cs) → choose_from o k (p - t) t cs ≡ record { owners = cs ++ (o t ∷ []); probes = t + 1 }
      choose_from_last l = rw (left, m, le-leb k (suc (length cs)) l, add-one t)

      pub choose_from_more : suc (length cs) < k → choose_from o k (p - t) t cs ≡ choose_from o k (p - (t + 1)) (t + 1) (cs ++ (o t ∷ []))
      choose_from_more l = rw (left, m, lt-leb k (suc (length cs)) l, add-one t)

  pub choose_from_end : p ≤ t → choose_from o k (p - t) t cs ≡ record { owners = cs; probes = t }
  choose_from_end h = let e : p - t ≡ 0 = omega arith in rw e

-- ---- Probing

module _ (s os : List ℕ) (n R block k : ℕ) where
  abbrev o : ℕ → ℕ
  o = owner_of s os n R block

  pub record Probing (list : List ℕ) (found t : ℕ) : Type 0 where
    pub owners : List ℕ
    pub written : list ≡ owners ++ replicate (8 - found) 0
    pub count : length owners ≡ found
    pub fewer : found < k
    pub room : k ≤ 8
    pub passed : t ≤ 256
    pub rest : choose_from o k (256 - t) t owners ≡ choose o k

  pub probing_start : 1 ≤ k → k ≤ 8 → Probing (replicate 8 0) 0 0
  unfolding choose
  probing_start h room = record { owners = []; written = refl; count = refl; fewer = h; room = room; passed = omega arith; rest = refl }

  answered : (list cs : List ℕ) (found t : ℕ) → choose o k ≡ record { owners = cs; probes = t } → list ≡ cs ++ replicate (8 - found) 0
      → length cs ≡ found → found ≤ k → ProbesAnswered s os n R block k (record { owners = list; found = found; probes = t })
  answered list cs found t e written count most = record { owners = rw e written; found = rw e (sym count); probes = rw e; most = most }

  module _ (list : List ℕ) (found t : ℕ) (w : Probing list found t) where
    pub probing_end : 256 ≤ t → ProbesAnswered s os n R block k (record { owners = list; found = found; probes = 256 })
    probing_end h =
        let e : t ≡ 256 = omega (arith, w.passed) in
        answered _ _ _ _ (rw e at (sym w.rest ∙ choose_from_end o k 256 t w.owners h)) w.written w.count (omega arith)

    module _ (d : ℕ) (e : d ≡ o t) (h : t < 256) where
      seen : {b : Bool} → member d (take found list) ≡ b → member (o t) w.owners ≡ b
      seen m = rw (w.written, take_at w.owners (replicate (8 - found) 0) found w.count, e) at m

      pub probing_again : member d (take found list) ≡ true → Probing list found (t + 1)
      probing_again m =
          record {
            owners = w.owners;
            written = w.written;
            count = w.count;
            fewer = w.fewer;
            room = w.room;
            passed = omega arith;
            rest = sym (choose_from_again o k 256 t w.owners h (seen m)) ∙ w.rest;
          }

      abbrev more : List ℕ
      more = w.owners ++ (o t ∷ [])

      stored : set list found d ≡ more ++ replicate (8 - (found + 1)) 0
      stored =
          let one : 8 - found ≡ suc (8 - (found + 1)) = omega arith in
          let zeros : List ℕ = replicate (8 - (found + 1)) 0 in
          rw (w.written, one, e) (set_at w.owners 0 zeros (o t) found w.count ∙ sym (append_snoc w.owners (o t) zeros))

      length_more : length more ≡ found + 1
      length_more = length-append w.owners (o t ∷ []) ∙ omega arith

      module _ (m : member d (take found list) ≡ false) where
        pub probing_more : (found + 1 ≡ k → ⊥) → Probing (set list found d) (found + 1) (t + 1)
        probing_more l =
            record {
              owners = more;
              written = stored;
              count = length_more;
              fewer = omega (arith, l);
              room = w.room;
              passed = omega arith;
              rest = sym (choose_from_more o k 256 t w.owners h (seen m) (omega (arith, l))) ∙ w.rest;
            }

        pub probing_last : found + 1 ≡ k → ProbesAnswered s os n R block k (record { owners = set list found d; found = found + 1; probes = t + 1 })
        probing_last l =
            answered _ _ _ _ (sym w.rest ∙ choose_from_last o k 256 t w.owners h (seen m) (omega arith)) stored length_more (omega arith)
