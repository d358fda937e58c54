-- `history_printing::put_field` meets its contract: the byte stands behind the digits.
use mathlib.Core.List.{[], ◌∷◌}
use native.Mathlib.Omega.{arith}
use Rattle.history_printing.specs.Printing.{decimal}
use Rattle.history_printing.proofs.PutBehind.{put_byte, put_behind, length_end}
use Rattle.history_printing.proofs.put_field.Goals as goal

pub returns : goal.returns
returns c =
    let done = c.put_decimal-last in let a = c.args in record {
      place = omega (arith, done.ensures.place, length_end a.n a.end);
      field = put_behind a.out.now done.new.out _ (decimal a.n) (a.end ∷ []) a.place done.result (omega arith) done.ensures.place
          done.ensures.digits (put_byte done.new.out done.result a.end (omega (arith, done.ensures.place)));
    }
