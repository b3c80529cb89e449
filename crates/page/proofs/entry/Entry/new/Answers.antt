use Rattle.std.proofs.Common.{refl, ap, ◌∙◌}
use Rattle.page.specs.Entries.{entry_answer}
use Rattle.page.proofs.Alike.{entered}
use Rattle.page.proofs.entry.Entry.new.Goals as goal

pub returns : goal.returns
returns c =
    let same = c.in-Ok.ensures.1 in
    record { answer = entered _ ∙ ap (λ lines. entry_answer c.args.key lines c.args.hits) same; fields = (refl, same, refl) }
