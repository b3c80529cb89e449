-- What the plain list of entries answers to the calls of a session.
use Rattle.std.specs.Prelude.{ℕ, List, length, Ok, Err, Result}
use Rattle.tree.specs.Plain.{remove_answer, after_remove}
use Rattle.page.specs.Pages.{put_answer, after_put, find_answer}
use Rattle.page.specs.declared.entry.Entry.{Entry}
use Rattle.pages.specs.Calls.{number, call_in}
use Rattle.pages.specs.Numbers.{then}
use Rattle.pages.specs.declared.answer.Answer.{Answer}
use Rattle.pages.specs.declared.answer.Answer.TheVariants.{Put, Taken, Found}
use Rattle.pages.specs.declared.call.Call.{Call}
use Rattle.pages.specs.declared.call.Call.TheVariants as call
use Rattle.pages.specs.declared.call.Refusal.{Refusal}

-- an outcome, with the number of the refusal in place of the refusal
abbrev pub told : {A : Type 0} → Result A Refusal → Result A ℕ
told (Ok x) = Ok x
told (Err e) = Err (number e)

-- the answer to a call, where so many entries have room
abbrev pub call_answer : ℕ → List Entry → Call → Result Answer ℕ
call_answer room xs (call.Put place key lines hits) = then (put_answer room xs place lines) (λ _. Ok (Put (length (after_put room xs place key lines hits))))
call_answer room xs (call.Take place) = then (remove_answer xs place) (λ e. Ok (Taken e))
call_answer room xs (call.Find line) = then (find_answer xs line) (λ e. Ok (Found e))

-- the entries after a call
abbrev pub after_call : ℕ → List Entry → Call → List Entry
after_call room xs (call.Put place key lines hits) = after_put room xs place key lines hits
after_call room xs (call.Take place) = after_remove xs place
after_call room xs (call.Find line) = xs

-- the same of a line, which may ask for no call
abbrev pub line_answer : ℕ → List Entry → List ℕ → Result Answer ℕ
line_answer room xs line = then (told (call_in line)) (call_answer room xs)

abbrev pub after_read : ℕ → List Entry → Result Call Refusal → List Entry
after_read room xs (Ok c) = after_call room xs c
after_read room xs (Err e) = xs

abbrev pub after_line : ℕ → List Entry → List ℕ → List Entry
after_line room xs line = after_read room xs (call_in line)
