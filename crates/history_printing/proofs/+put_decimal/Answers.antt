-- `history_printing::put_decimal` meets its contract: one digit is put as it is, and the last digit stands behind those of the tenth.
use mathlib.Core.Path.{sym, ap}
use mathlib.Core.List.{[], ◌∷◌}
use Prim.Native.Nat.{◌+◌, ◌/◌, ◌%◌}
use native.Mathlib.Omega.{arith}
use lib.ListN.{length}
use Rattle.history_printing.specs.Printing.{decimal}
use Rattle.history_printing.proofs.Decimals.{decimal_low, decimal_high, decimal_some, length_decimal_high}
use Rattle.history_printing.proofs.PutBehind.{put_byte, put_behind, put_same}
use Rattle.history_printing.proofs.+put_decimal.Goals as goal

pub bounds-out-place : goal.bounds-out-place
bounds-out-place t c = omega (arith, decimal_some c.args.n)

pub returns-then-n-lt10-clause-place : goal.returns-then-n-lt10-clause-place
returns-then-n-lt10-clause-place t c = omega (arith, ap length (decimal_low c.args.n c.if-n-lt10.true))

pub returns-then-n-lt10-clause-digits : goal.returns-then-n-lt10-clause-digits
returns-then-n-lt10-clause-digits t c =
    let a = c.args in
    put_same a.out.now _ ((48 + a.n) ∷ []) (decimal a.n) a.place (sym (decimal_low a.n c.if-n-lt10.true))
    (put_byte a.out.now a.place (48 + a.n) (omega (arith, decimal_some a.n)))

pub put_decimal-last-requires : goal.put_decimal-last-requires
put_decimal-last-requires t c =
    let e = length_decimal_high c.args.n (omega arith) c.if-n-lt10.false in
    (omega arith, omega (arith, e))

pub bounds-out-last : goal.bounds-out-last
bounds-out-last t c =
    let e = length_decimal_high c.args.n (omega arith) c.if-n-lt10.false in
    omega (arith, e, c.put_decimal-last.ensures.place)

pub returns-clause-place : goal.returns-clause-place
returns-clause-place t c =
    let e = length_decimal_high c.args.n (omega arith) c.if-n-lt10.false in
    omega (arith, e, c.put_decimal-last.ensures.place)

pub returns-clause-digits : goal.returns-clause-digits
returns-clause-digits t c =
    let a = c.args in
    let done = c.put_decimal-last in
    let e = decimal_high a.n (omega arith) c.if-n-lt10.false in
    let l = length_decimal_high a.n (omega arith) c.if-n-lt10.false in
    let x = 48 + a.n % 10 in
    put_same a.out.now _ _ (decimal a.n) a.place (sym e)
    (put_behind a.out.now done.new.out _ (decimal (a.n / 10)) (x ∷ []) a.place done.result (omega arith) done.ensures.place
    done.ensures.digits (put_byte done.new.out done.result x (omega (arith, l, done.ensures.place))))
