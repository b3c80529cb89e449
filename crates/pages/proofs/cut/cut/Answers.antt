use Rattle.std.proofs.Common.{◌≡◌, ◌+◌, ◌-◌, take, drop, Some, sym, ap, ◌∙◌, arith}
use Rattle.std.proofs.lemmas.List.{take_rest, take_all}
use Rattle.pages.specs.Lines.{first_at}
use Rattle.pages.proofs.Marks.{behind_some, behind_none, place_is, place_none}
use Rattle.pages.proofs.cut.cut.Goals as goal

pub returns-in-Some : goal.returns-in-Some
returns-in-Some c =
    let s = c.args.bytes.now in
    let p = place_is c.args.mark s c.in-Some.n (sym c.place_of.ensures ∙ c.in-Some.is) in
    let e : c.in-Some.n - 0 ≡ first_at c.args.mark s = let q = p.0 in omega arith in
    record {
      before = ap (λ n. take n s) e;
      behind = ap Some (take_rest s _ ∙ ap (λ n. drop (n + 1) s) p.0) ∙ sym (behind_some c.args.mark s (let q = p.0 in let r = p.1 in omega arith));
    }

pub returns-in-None : goal.returns-in-None
returns-in-None c =
    let s = c.args.bytes.now in
    let le = place_none c.args.mark s (sym c.place_of.ensures ∙ c.in-None.is) in
    record { before = sym (take_all _ s le); behind = sym (behind_none c.args.mark s le) }
