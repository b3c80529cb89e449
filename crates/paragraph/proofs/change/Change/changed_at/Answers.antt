use Rattle.std.proofs.Common.{arith}
use Rattle.bidi.specs.Items.{classes}
use Rattle.paragraph.specs.Edges.{IsChanged}
use Rattle.paragraph.specs.Paragraphs.{items_of}
use Rattle.paragraph.proofs.Decides.{decides_before, decides_given, decides_behind}
use Rattle.paragraph.proofs.Stretched.{length-classes}
use Rattle.paragraph.proofs.change.Change.changed_at.Goals as goal

pub returns-then-i-self : goal.returns-then-i-self
unfolding IsChanged
returns-then-i-self c =
    let items = items_of c.args.self.now.paragraph.now in
    let n = length-classes items in
    let f = c.args.self.now.fits in
    decides_before c.args.self.now.was c.args.self.now.is (classes items) c.args.self.now.place c.args.self.now.count c.args.i c.if-i-self.true (omega arith) _ _ c.level_before.ensures c.level_before-then-i-self.ensures

pub returns-then-i-self-2 : goal.returns-then-i-self-2
unfolding IsChanged
returns-then-i-self-2 c =
    let e = c.args.self.now in
    decides_given e.was e.is (classes (items_of e.paragraph.now)) e.place e.count c.args.i c.if-i-self.false c.if-i-self-2.true

pub returns : goal.returns
unfolding IsChanged
returns c =
    let items = items_of c.args.self.now.paragraph.now in
    let n = length-classes items in
    let w = c.requires in
    decides_behind c.args.self.now.was c.args.self.now.is (classes items) c.args.self.now.place c.args.self.now.count c.args.i (omega arith) (omega arith) _ _ c.level_behind.ensures c.level_behind-2.ensures
