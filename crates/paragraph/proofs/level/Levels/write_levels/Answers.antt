use Rattle.std.proofs.Common.{◌≡◌, ◌+◌, ◌-◌, [], ◌∷◌, ◌++◌, length, get_or, take, drop, set, sym, ap, ◌∙◌, append_assoc, arith}
use Rattle.std.proofs.lemmas.List.{append-nil, set_at, drop_more, take_more, drop_all, take_all, length-take-le}
use Rattle.paragraph.specs.Paragraphs.{items_of, levels_in}
use Rattle.paragraph.proofs.Levels.{length-levels}
use Rattle.paragraph.proofs.level.Levels.write_levels.Goals as goal

pub loop-place-preserved : goal.loop-place-preserved
loop-place-preserved c =
    let p = c.args.self.now.paragraph.now in
    let ls = levels_in p in
    let old = take (c.count-count.result - 0) c.args.scratch.now in
    let i = c.loop-place.place in
    let v = c.at.result in
    let n = length-levels p.direction (items_of p) in
    let room = c.requires in
    let all = c.count-count.ensures in
    let long = length-take-le (c.count-count.result - 0) c.args.scratch.now (omega arith) in
    let inside = c.loop-place-test.true in
    let front = length-take-le i ls (omega arith) in
    ap (λ s. set s i v) c.loop-place.invariant
    ∙ ap (λ r. set (take i ls ++ r) i v) (drop_more old i 0 (omega arith))
    ∙ set_at (take i ls) (get_or old i 0) (drop (i + 1) old) v i front
    ∙ sym (append_assoc (take i ls) (v ∷ []) (drop (i + 1) old))
    ∙ ap (λ l. l ++ drop (i + 1) old) (ap (λ x. take i ls ++ (x ∷ [])) c.at.ensures ∙ sym (take_more ls i 0 (omega arith)))

pub returns : goal.returns
returns c =
    let p = c.args.self.now.paragraph.now in
    let ls = levels_in p in
    let old = take (c.count-count.result - 0) c.args.scratch.now in
    let i = c.loop-place.place in
    let n = length-levels p.direction (items_of p) in
    let room = c.requires in
    let all = c.count-count.ensures in
    let long = length-take-le (c.count-count.result - 0) c.args.scratch.now (omega arith) in
    let past = c.loop-place-test.false in
    let e : c.count-count.result - 0 ≡ length ls = omega arith in
    let front : c.loop-place.front ≡ ls = c.loop-place.invariant ∙ ap (λ l. l ++ drop i old) (take_all i ls (omega arith)) ∙ ap (λ l. ls ++ l) (drop_all i old (omega arith)) ∙ append-nil ls in
    ap (λ l. l ++ drop (c.count-count.result - 0) c.args.scratch.now) front ∙ ap (λ k. ls ++ drop k c.args.scratch.now) e
