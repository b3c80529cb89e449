-- What is printed.
use Rattle.std.specs.Prelude.{ℕ, ◌+◌, cond, List, [], ◌∷◌, ◌++◌, length, Ok, Err, codes, decimal, Result, nat_lt}
use Rattle.page.specs.Pages.{lines_of, hits_of}
use Rattle.page.specs.declared.entry.Entry.{Entry}
use Rattle.pages.specs.Lines.{lines_in}
use Rattle.pages.specs.Session.{line_answer, after_line}
use Rattle.pages.specs.declared.answer.Answer.{Answer}
use Rattle.pages.specs.declared.answer.Answer.TheVariants.{Put, Taken, Found}

-- a tab and a number
abbrev pub field : ℕ → List ℕ
field n = 9 ∷ decimal n

-- the key, lines and hits of an entry, which end a line
abbrev pub entry_text : Entry → List ℕ
entry_text e = field e.key ++ (field e.lines ++ (field e.hits ++ codes "\n"))

-- an answer
abbrev pub answer_text : Answer → List ℕ
answer_text (Put count) = codes "put" ++ (field count ++ codes "\n")
answer_text (Taken e) = codes "take" ++ entry_text e
answer_text (Found e) = codes "find" ++ entry_text e

-- the outcome of the line of a number
abbrev pub line_text : ℕ → Result Answer ℕ → List ℕ
line_text n (Ok a) = answer_text a
line_text n (Err k) = codes "!" ++ (field n ++ (field k ++ codes "\n"))

-- how many entries, lines and hits are there at the end, and how many lines were refused
abbrev pub end_text : List Entry → ℕ → List ℕ
end_text xs refused = codes "end" ++ (field (length xs) ++ (field (lines_of xs) ++ (field (hits_of xs) ++ (field refused ++ codes "\n"))))

-- a refused line counts
abbrev pub refusals : Result Answer ℕ → ℕ
refusals (Ok a) = 0
refusals (Err k) = 1

-- what is printed of more lines, when so many are done and so many of them were refused
abbrev pub session : ℕ → List Entry → ℕ → ℕ → List (List ℕ) → List ℕ
session room xs done refused [] = end_text xs refused
session room xs done refused (l ∷ ls) =
    line_text (done + 1) (line_answer room xs l) ++ session room (after_line room xs l) (done + 1) (refused + refusals (line_answer room xs l)) ls

-- what is printed of a text
abbrev pub transcript : ℕ → List Entry → List ℕ → List ℕ
transcript room xs text = session room xs 0 0 (lines_in text)

-- what the program prints of its input: a page with room for 256 entries is empty at first
abbrev pub output : List ℕ → List ℕ
output input = cond (nat_lt 16384 (length input)) (codes "!\t0\t28\n") (transcript 256 [] input)
