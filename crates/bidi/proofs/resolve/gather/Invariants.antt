use Rattle.std.proofs.Common.{◌≡◌, ◌++◌, length, drop}
use Rattle.std.specs.Iterator.Adapters.{enumerate_count, enumerate_source, rev_source}
use Rattle.std.specs.Slice.Iter.{iter_rest}
use Rattle.bidi.proofs.Resolving.{Gathered}
use Rattle.bidi.proofs.resolve.gather.Given as goal

abbrev pub invariant-loop-place : goal.invariant-loop-place
invariant-loop-place l =
    let front = iter_rest (enumerate_source (rev_source l.place-iterator)) in
    record {
      from_start : enumerate_count (rev_source l.place-iterator) ≡ 0;
      in_front : l.items ≡ front ++ drop (length front) l.items;
      gathered : Gathered l.items (length front) l.bytes l.right l.strong;
    }
