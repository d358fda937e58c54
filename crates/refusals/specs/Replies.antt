-- Document 01's number and value of an answer.
--
--   number e        the number of a refusal
--   number_of r     that of an answer: 0 where it is not refused
--   Reply           a number and a value
--   replied x       the reply of a call that is not refused: 0 and its value x
--   declined n      the reply of a refused call: its number n and 0
--   reply_of r      the reply of the answer r
use Rattle.std.specs.Prelude.{ℕ, Result, Ok, Err}
use Rattle.refusals.specs.declared.Refusal.{Refusal}
use Rattle.refusals.specs.declared.Refusal.TheVariants.{Shapeless, Outside, Misplaced, Present, Absent, Full, OnlyDevice, OverLimit, ShortList, NoDevice, CopiesOutside, FewOwners, PointOutside, Unmarked, OtherVersion, Faulty, ShortBuffer}

-- 'one refusal number': the rows of the table, in its order
abbrev pub number : Refusal → ℕ
number Shapeless = 1
number Outside = 2
number Misplaced = 3
number Present = 4
number Absent = 5
number Full = 6
number OnlyDevice = 7
number OverLimit = 8
number ShortList = 9
number NoDevice = 10
number CopiesOutside = 11
number FewOwners = 12
number PointOutside = 13
number Unmarked = 14
number OtherVersion = 15
number Faulty = 16
number ShortBuffer = 17

abbrev pub number_of : {A : Type 0} → Result A Refusal → ℕ
number_of (Ok _) = 0
number_of (Err e) = number e

-- 'Each returns its number and zeros.'
pub record Reply : Type 0 where
  pub number : ℕ
  pub value : ℕ

abbrev pub replied : ℕ → Reply
replied x = record { number = 0; value = x }

abbrev pub declined : ℕ → Reply
declined n = record { number = n; value = 0 }

-- 'For an answer that is an enum, a definition gives this paper's number and values for each case of the enum.'
abbrev pub reply_of : Result ℕ Refusal → Reply
reply_of (Ok x) = replied x
reply_of (Err e) = declined (number e)
