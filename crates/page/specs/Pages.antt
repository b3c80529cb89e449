-- The plain list of entries: what it answers to each call of a page, and what it then holds.
use Rattle.std.specs.Prelude.{ℕ, ◌+◌, ◌-◌, cond, List, [], ◌∷◌, Ok, Err, Result, nat_lt}
use Rattle.std.specs.List.{insert}
use Rattle.tree.specs.Plain.{accepted, insert_answer}
use Rattle.tree.specs.Trees.{elements_of, capacity_of}
use Rattle.page.specs.Faults.{number}
use Rattle.page.specs.Entries.{in_range, entry_of}
use Rattle.page.specs.declared.entry.Entry.{Entry}
use Rattle.page.specs.declared.fault.PageFault.{PageFault}
use Rattle.page.specs.declared.page.Page.{Page}

-- an answer, with the number of the refusal in place of the fault
abbrev pub numbered : {A : Type 0} → Result A PageFault → Result A ℕ
numbered (Ok x) = Ok x
numbered (Err f) = Err (number f)

-- the entries of a page, first to last
abbrev pub entries_of : Page → List Entry
entries_of p = elements_of p.tree.now

-- how many entries a page can take
abbrev pub room_of : Page → ℕ
room_of p = capacity_of p.tree.now

-- putting an entry before a place
abbrev pub put_answer : ℕ → List Entry → ℕ → ℕ → Result (Unit {0}) ℕ
put_answer room xs place lines = cond (in_range lines) (insert_answer room xs place) (Err 31)

abbrev pub after_put : ℕ → List Entry → ℕ → ℕ → ℕ → ℕ → List Entry
after_put room xs place key lines hits = accepted (put_answer room xs place lines) (insert xs place (entry_of key lines hits)) xs

-- the entry that shows a line of the screen: the lines count down through the entries
abbrev pub find_answer : List Entry → ℕ → Result Entry ℕ
find_answer [] line = Err 4
find_answer (x ∷ xs) line = cond (nat_lt line x.lines) (Ok x) (find_answer xs (line - x.lines))

-- the lines and the hits of all entries
abbrev pub lines_of : List Entry → ℕ
lines_of [] = 0
lines_of (x ∷ xs) = x.lines + lines_of xs

abbrev pub hits_of : List Entry → ℕ
hits_of [] = 0
hits_of (x ∷ xs) = x.hits + hits_of xs
