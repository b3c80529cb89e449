use Rattle.std.proofs.Common.{◌≡◌, map, vec_items, vec_len}
use Rattle.std.specs.Slice.Iter.{chunks_rest, chunks_size}
use Rattle.listing.specs.Lines.{items_read, onto, reading}
use Rattle.listing.proofs.parse.items_in.Given as goal

abbrev pub invariant-loop-pair : goal.invariant-loop-pair
invariant-loop-pair l =
    (chunks_size l.pair-iterator ≡ 2)
    × (items_read 0 l.bytes ≡ onto (map reading (vec_items l.items)) (items_read (vec_len l.items) (chunks_rest l.pair-iterator)))
