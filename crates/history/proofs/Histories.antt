-- One change more.
use Rattle.std.proofs.Common.{◌≡◌, ℕ, List, [], ◌∷◌, ◌++◌, length, Result, refl, arith}
use Rattle.bidi.specs.declared.item.Item.{Item}
use Rattle.paragraph.specs.declared.fault.ParagraphFault.{ParagraphFault}
use Rattle.paragraph.specs.declared.outcome.Outcome.{Outcome}
use Rattle.paragraph.specs.Plain.{Plain}
use Rattle.history.specs.Plain.{after_change, after_all, Answer, Answered}
use Rattle.history.specs.declared.request.Change.{Change}

module _ (room : ℕ) (recorded : List Item) where
  pub after_more : (p : Plain) (cs : List Change) (c : Change) → after_all room recorded p (cs ++ (c ∷ [])) ≡ after_change room recorded (after_all room recorded p cs) c
  after_more p [] c = refl
  after_more p (d ∷ cs) c = after_more (after_change room recorded p d) cs c

  pub answered_more : (p : Plain) (cs : List Change) (rs : List (Result Outcome ParagraphFault)) (c : Change) (r : Result Outcome ParagraphFault) → length cs ≡ length rs → Answered room recorded p cs rs → Answer room recorded (after_all room recorded p cs) c r → Answered room recorded p (cs ++ (c ∷ [])) (rs ++ (r ∷ []))
  answered_more p [] [] c r l h a = (a, tt)
  answered_more p [] (s ∷ rs) c r l h a = absurd (omega arith)
  answered_more p (d ∷ cs) [] c r l h a = absurd h
  answered_more p (d ∷ cs) (s ∷ rs) c r l h a = (h.0, answered_more (after_change room recorded p d) cs rs c r (omega arith) h.1 a)
