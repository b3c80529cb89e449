use Rattle.std.proofs.Common.{◌≡◌, true, leb, ◌++◌, length, drop, Ok, sym, ap, ◌∙◌, arith}
use Rattle.std.proofs.lemmas.Bool.{le-leb, cond-true}
use Rattle.rules.specs.Rules.{levels}
use Rattle.bidi.specs.Actions.{strong_at}
use Rattle.bidi.specs.Items.{classes}
use Rattle.bidi.specs.Resolving.{base_of}
use Rattle.bidi.proofs.Acting.{strong_acts}
use Rattle.bidi.proofs.resolve.resolve.Goals as goal

pub returns : goal.returns
returns c =
    let items = c.args.items.now in
    let buffer = c.args.levels.now in
    let fits : leb (length items) (length buffer) ≡ true = le-leb (length items) (length buffer) (omega arith) in
    let base : c.base-base.result ≡ base_of c.args.direction items =
    c.base-base.ensures (classes items) (c.strong_at.ensures ∙ ap strong_at c.gather-strong.ensures.strong ∙ strong_acts items) in
    record {
      answer = ap Ok base ∙ sym (cond-true _ _ _ fits);
      levels =
          ap (λ l. l ++ drop (length items) buffer) (c.settle.ensures ∙ ap (λ b. levels b (classes items)) base)
          ∙ sym (cond-true _ _ _ fits);
    }
