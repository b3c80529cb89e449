use Rattle.std.proofs.Common.{◌≡◌, ◌+◌, ◌-◌, ◌≤◌, length, take, sym, ap, ◌∙◌, arith, rules}
use Rattle.std.proofs.lemmas.List.{length-take-le, get_or-take, take-take}
use Rattle.rules.specs.Contexts.{start}
use Rattle.bidi.specs.Items.{classes}
use Rattle.paragraph.specs.Paragraphs.{items_of}
use Rattle.paragraph.specs.Steps.{left, none}
use Rattle.paragraph.specs.Spans.{hull}
use Rattle.paragraph.specs.declared.change.Change.{Change}
use Rattle.paragraph.proofs.Leftwards.{leftward_other, leftward_same, leftward_agree}
use Rattle.paragraph.proofs.Stretched.{length-classes}
use Rattle.paragraph.proofs.change.Change.walk_before.Goals as goal
use Rattle.paragraph.proofs.change.Change.walk_before.Goals.{then-level, else-level}

-- the items before the place are as many as it says
front : (e : Change) → length (take e.place (classes (items_of e.paragraph.now))) ≡ e.place
front e = let h = e.fits in let n = length-classes (items_of e.paragraph.now) in length-take-le e.place (classes (items_of e.paragraph.now)) (omega arith)

pub loop-i-preserved : goal.loop-i-preserved
loop-i-preserved c =
    let e = c.args.self.now in
    let b = e.was.base in
    let cs = classes (items_of e.paragraph.now) in
    let i = c.loop-i.i in
    let w = c.loop-i.invariant in
    let f = front e in
    let some = c.loop-i-test.true in
    let below : i ≤ e.place = c.loop-i.auto.i in
    let step : i ≡ i - 1 + 1 = omega arith in
    let item = ap (λ s. s.class) c.surroundings-at.ensures ∙ sym (get_or-take e.place cs (i - 1) none (omega arith)) in
    let context = ap (λ s. s.left) c.surroundings-at.ensures ∙ ap (left (start b)) (sym (take-take (i - 1) e.place cs (omega arith))) in
    elim c.if-level.branch [
      | then-level v ↦
          leftward_other b (start b) e.was.right e.is.right (take e.place cs) i (i - 1) c.loop-i.old c.loop-i.new c.loop-i.found w step
          _ item _ context _ _ c.level.ensures.is c.level-in-loop-i.ensures.is _ _ c.before-old.ensures c.before-new.ensures _ (v.found-is ∙ v.hull-found.ensures ∙ ap (λ s. hull s c.loop-i.found) v.point-here.ensures) v.if-level.true
      | else-level v ↦
          leftward_same b (start b) e.was.right e.is.right (take e.place cs) i (i - 1) c.loop-i.old c.loop-i.new c.loop-i.found w step
          _ item _ context _ _ c.level.ensures.is c.level-in-loop-i.ensures.is _ _ c.before-old.ensures c.before-new.ensures _ v.found-is v.if-level.false
    ]

pub returns-then-eq : goal.returns-then-eq
returns-then-eq c =
    let e = c.args.self.now in
    leftward_agree e.was.base (start e.was.base) e.was.right e.is.right (take e.place (classes (items_of e.paragraph.now)))
    c.loop-i.i c.loop-i.old c.loop-i.new c.loop-i.found (search rules) c.loop-i.invariant
