use Rattle.pbd_store.specs.InRows.{places_in, AreFlat}
use Rattle.pbd_store.specs.Pairs.{opposites_in, ways_in}
use Rattle.pbd_store.proofs.Parting.{Pulled}
use Rattle.pbd_store.proofs.pulling.pull_rows.Given as goal

abbrev pub invariant-loop-j : goal.invariant-loop-j
invariant-loop-j l = record {
  pulled : Pulled l.j l.pairs.first.now l.pairs.second.now (opposites_in l.moves.back.now) (ways_in l.moves.forth.now) l.reach
      l.limit (places_in l.initial.rows) (places_in l.rows);
  flat : AreFlat l.rows;
}
