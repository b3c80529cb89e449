use denote.Enum.Bare.{same_true}
use Rattle.std.proofs.lemmas.Bool.{and_parts}
use Rattle.rules.specs.contracts.classes.Strong.{the_type as strong_type}
use Rattle.rules.specs.contracts.classes.Side.{the_type as side_type}
use Rattle.rules.specs.contracts.contexts.Kind.{the_type as kind_type}
use Rattle.rules.specs.declared.contexts.Left.{Left}
use Rattle.std.proofs.Common.{◌≡◌, ℕ, ◌+◌, ◌-◌, ◌<◌, ◌≤◌, length, get_or, drop, sym, ap, ◌∙◌, arith, rules}
use Rattle.std.proofs.lemmas.List.{length-drop, get_or-drop, drop-drop}
use Rattle.rules.specs.Contexts.{end}
use Rattle.bidi.specs.Items.{classes}
use Rattle.paragraph.specs.Paragraphs.{items_of}
use Rattle.paragraph.specs.Spans.{hull}
use Rattle.paragraph.specs.Steps.{right, none}
use Rattle.paragraph.proofs.Rightwards.{rightward_other, rightward_same, rightward_end, rightward_agree}
use Rattle.paragraph.proofs.Stretched.{length-classes}
use Rattle.paragraph.proofs.change.Change.walk_behind.Goals as goal
use Rattle.paragraph.proofs.change.Change.walk_behind.Goals.{then-level, else-level}

pub loop-j-preserved : goal.loop-j-preserved
loop-j-preserved c =
    let e = c.args.self.now in
    let b = e.was.base in
    let cs = classes (items_of e.paragraph.now) in
    let from = e.place + e.count in
    let j = c.loop-j.j in
    let w = c.loop-j.invariant in
    let n = length-classes (items_of e.paragraph.now) in
    let all = c.count-j-end.ensures in
    let low : from ≤ j = w.low in
    let whole : from + (j - from) ≡ j = omega arith in
    let beyond : from + (j - from + 1) ≡ j + 1 = omega arith in
    let long : length (drop from cs) ≡ length cs - from = length-drop from cs in
    let here : j < from + length (drop from cs) = omega arith in
    let item : get_or cs j none ≡ get_or (drop from cs) (j - from) none = sym (get_or-drop from cs (j - from) none ∙ ap (λ (k : ℕ). get_or cs k none) whole) in
    let context = ap (λ s. s.right) c.surroundings-at.ensures ∙ ap (right (end b)) (sym (drop-drop (j - from + 1) from cs ∙ ap (λ (k : ℕ). drop k cs) beyond)) in
    elim c.if-level.branch [
      | then-level v ↦
          rightward_other b e.was.left e.is.left (end b) (drop from cs) from j c.loop-j.old c.loop-j.new c.loop-j.found w here
          _ (ap (λ s. s.class) c.surroundings-at.ensures ∙ item) _ context _ _ c.level.ensures.is c.level-in-loop-j.ensures.is _ _ c.after-old.ensures c.after-new.ensures _ (v.found-is ∙ v.hull-found.ensures ∙ ap (λ s. hull s c.loop-j.found) v.point.ensures) v.if-level.true
      | else-level v ↦
          rightward_same b e.was.left e.is.left (end b) (drop from cs) from j c.loop-j.old c.loop-j.new c.loop-j.found w here
          _ (ap (λ s. s.class) c.surroundings-at.ensures ∙ item) _ context _ _ c.level.ensures.is c.level-in-loop-j.ensures.is _ _ c.after-old.ensures c.after-new.ensures _ v.found-is v.if-level.false
    ]

pub returns-after-loop-j : goal.returns-after-loop-j
returns-after-loop-j c =
    let e = c.args.self.now in
    let cs = classes (items_of e.paragraph.now) in
    let from = e.place + e.count in
    let n = length-classes (items_of e.paragraph.now) in
    let all = c.count-j-end.ensures in
    let long = length-drop from cs in
    let fits = e.fits in
    rightward_end e.was.base e.was.left e.is.left (end e.was.base) (drop from cs) from
    c.loop-j.j c.loop-j.old c.loop-j.new c.loop-j.found (omega arith) c.loop-j.invariant

-- left contexts whose parts are the same are one
one_left : {x y : Left} → x.strong ≡ y.strong → x.side ≡ y.side → x.kind ≡ y.kind → x ≡ y
one_left {x} {y} p q r =
    let a : x ≡ record y { side = x.side; kind = x.kind } = ap (λ s. record x { strong = s }) p in
    let b : record y { side = x.side; kind = x.kind } ≡ record y { kind = x.kind } = ap (λ s. record y { side = s; kind = x.kind }) q in
    a ∙ b ∙ ap (λ s. record y { kind = s }) r

pub returns-then-eq : goal.returns-then-eq
returns-then-eq c =
    let e = c.args.self.now in
    let from = e.place + e.count in
    let all = and_parts _ _ (sym c.eq.ensures ∙ c.if-eq.true) in
    let rest = and_parts _ _ all.1 in
    let same : c.loop-j.old ≡ c.loop-j.new = one_left (same_true strong_type (search rules) _ _ all.0) (same_true side_type (search rules) _ _ rest.0) (same_true kind_type (search rules) _ _ rest.1) in
    rightward_agree e.was.base e.was.left e.is.left (end e.was.base) (drop from (classes (items_of e.paragraph.now))) from
    c.loop-j.j c.loop-j.old c.loop-j.new c.loop-j.found same c.loop-j.invariant
