use Rattle.std.proofs.Common.{◌≡◌, ℕ, leb, take, drop, ap, ◌∙◌, arith}
use Rattle.std.specs.List.{prefix_len, suffix_len}
use Rattle.bidi.proofs.Walks.{stretch_around}
use Rattle.bidi.proofs.column.Spot.stretch.Goals as goal

pub returns : goal.returns
returns c =
    let levels = c.args.self.now.levels.now in
    let p : ℕ = c.args.self.now.place in
    let k : ℕ = c.args.k in
    let n : c.high_before.result ≡ suffix_len (λ l. leb k l) (take p levels) = c.high_before.ensures.is ∙ ap (suffix_len (λ l. leb k l)) c.split_at.ensures.front in
    let m : c.high_from.result ≡ prefix_len (λ l. leb k l) (drop p levels) = c.high_from.ensures.is ∙ ap (prefix_len (λ l. leb k l)) c.split_at.ensures.back in
    stretch_around levels k p (omega arith) c.high_before.result c.high_from.result c.requires n m
