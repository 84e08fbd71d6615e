use Rattle.std.proofs.Common.{◌∙◌, ℕ, ◌+◌, ◌<◌, List, ◌++◌, length, get_or, take, Option, ap}
use Rattle.std.proofs.lemmas.List.{take_more, flat_map_more}
use Rattle.std.specs.Io.KnownBytes.{Appends}
use Rattle.std.specs.List.{flat_map}
use Rattle.pbd_io.specs.Appending.{appends_then}
use Rattle.pbd_log.specs.Entries.{entry_bytes}
use Rattle.pbd_tests_text.proofs.tests.log.write_log.Goals as goal

-- what stands before a list's pieces and the pieces of the items before i are written, and then that of item i
wrote_next : {X : Type 0} (f : X → List ℕ) (front : List ℕ) (xs : List X) (i : ℕ) (d : X) (old mid new : Option (List ℕ))
    → i < length xs → Appends old mid (front ++ flat_map f (take i xs)) → Appends mid new (f (get_or xs i d))
    → Appends old new (front ++ flat_map f (take (i + 1) xs))
wrote_next f front xs i d old mid new lt before next =
    rw (take_more xs i d lt)
    (rw (flat_map_more f front (take i xs) (get_or xs i d)) at (appends_then old mid new (front ++ flat_map f (take i xs)) (f (get_or xs i d)) before next))

pub loop-entry-preserved : goal.loop-entry-preserved
loop-entry-preserved g c = (
  c.in_ok-append.ensures.ok ∙ ap (λ n. n + 1) c.loop-entry.invariant.0,
  wrote_next entry_bytes _ c.args.entries.now c.loop-entry.entry-index _ _ _ _ c.loop-entry-test.true c.loop-entry.invariant.1 c.in_ok-append.ensures.bytes,
)
