-- `history::transcripts::put_table` meets its contract: the line `table`, then the rows.
use native.Mathlib.Omega.{arith}
use Rattle.pools.proofs.ValidParts.{valid_limited, valid_coalesced}
use Rattle.history.proofs.PrintedTables.{table_place, table_put}
use Rattle.history.proofs.transcripts.put_table.Goals as goal

pub put_rows-requires-clause-q_bound : goal.put_rows-requires-clause-q_bound
put_rows-requires-clause-q_bound c =
    let l = valid_limited c.args.pool c.requires.0 in (omega (arith, l.fits, l.room_most), l.most, valid_coalesced c.args.pool c.requires.0)

pub returns-clause-place : goal.returns-clause-place
returns-clause-place c =
    let a = c.args in
    table_place a.pool c.requires.0 a.out.now c.put_text-rows.new.out c.put_rows.new.out a.place (omega arith) c.put_text-rows.result c.put_rows.result
    c.put_text-rows.ensures.place c.put_rows.ensures.place

pub returns-clause-table : goal.returns-clause-table
returns-clause-table c =
    let a = c.args in
    table_put a.pool c.requires.0 a.out.now c.put_text-rows.new.out c.put_rows.new.out a.place (omega arith) c.put_text-rows.ensures.text
    c.put_text-rows.result c.put_text-rows.ensures.place c.put_rows.ensures.rows
