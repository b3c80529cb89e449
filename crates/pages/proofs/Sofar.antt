-- A session on the way: what is written, and what is still to come.
use Rattle.std.proofs.Common.{◌≡◌, ℕ, ◌+◌, ◌≤◌, Bool, true, false, cond, List, ◌∷◌, ◌++◌, length, is_err, Ok, Err, Result, sym, refl, ap, ◌∙◌, append_assoc, arith}
use Rattle.page.specs.declared.entry.Entry.{Entry}
use Rattle.pages.specs.Lines.{lines_in}
use Rattle.pages.specs.Session.{told, line_answer, after_line}
use Rattle.pages.specs.Reports.{line_text, refusals, session, transcript}
use Rattle.pages.specs.declared.answer.Answer.{Answer}
use Rattle.pages.specs.declared.call.Refusal.{Refusal}

-- of a text that is carried out from first entries on
pub record Sofar (room : ℕ) (first : List Entry) (text : List ℕ) (now_room : ℕ) (xs : List Entry) (done refused : ℕ) (rest printed : List ℕ) : Type 0 where
  pub written : printed ++ session room xs done refused (lines_in rest) ≡ transcript room first text
  pub same : now_room ≡ room
  pub left : done + length rest ≤ length text
  pub few : refused ≤ done

-- a refused outcome counts
pub counted : (o : Result Answer Refusal) → cond (is_err o) 1 0 ≡ refusals (told o)
counted (Ok a) = refl
counted (Err e) = refl

at_most_one : (b : Bool) → cond b 1 0 ≤ 1
at_most_one true = omega arith
at_most_one false = omega arith

module _ {room : ℕ} {first : List Entry} {text : List ℕ} {now_room : ℕ} {xs : List Entry} {done refused : ℕ} {rest printed : List ℕ} (h : Sofar room first text now_room xs done refused rest printed) where
  -- one line more
  pub one_more : (o : Result Answer Refusal) (line rest' bytes printed' : List ℕ) (room' : ℕ) (xs' : List Entry) (refused' : ℕ) → lines_in rest ≡ line ∷ lines_in rest' → length rest' + 1 ≤ length rest → told o ≡ line_answer now_room xs line → xs' ≡ after_line now_room xs line → room' ≡ now_room → refused' ≡ refused + cond (is_err o) 1 0 → bytes ≡ line_text (done + 1) (told o) → printed' ≡ printed ++ bytes → Sofar room first text room' xs' (done + 1) refused' rest' printed'
  one_more o line rest' bytes printed' room' xs' refused' lines less answer entries keeps counts shown writes =
      let told_room : told o ≡ line_answer room xs line = answer ∙ ap (λ n. line_answer n xs line) h.same in
      let text-is = ap (λ b. printed ++ b) (shown ∙ ap (line_text (done + 1)) told_room) in
      let entries_are = entries ∙ ap (λ n. after_line n xs line) h.same in
      let refused-is = counts ∙ ap (λ n. refused + n) (counted o ∙ ap refusals told_room) in
      record {
        written =
            (λ i. (writes ∙ text-is) i ++ session room (entries_are i) (done + 1) (refused-is i) (lines_in rest'))
            ∙ append_assoc printed _ _
            ∙ ap (λ ls. printed ++ session room xs done refused ls) (sym lines)
            ∙ h.written;
        same = keeps ∙ h.same;
        left = let l = h.left in omega arith;
        few = let f = h.few in omega (arith, at_most_one (is_err o));
      }
