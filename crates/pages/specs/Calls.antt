-- What a line asks for, and why it is refused.
use Rattle.std.specs.Prelude.{ℕ, cond, List, [], ◌∷◌, length, Ok, Err, codes, Result, ◌==◌, slice_index_or}
use Rattle.std.specs.Str.{bytes_eq}
use Rattle.page.specs.Faults as page
use Rattle.pages.specs.Lines.{fields_in}
use Rattle.pages.specs.Numbers.{number_in, small_in, then}
use Rattle.pages.specs.declared.call.Call.{Call}
use Rattle.pages.specs.declared.call.Call.TheVariants.{Put, Take, Find}
use Rattle.pages.specs.declared.call.Refusal.{Refusal}
use Rattle.pages.specs.declared.call.Refusal.TheVariants.{Command, Number, Page}

-- the number of each refusal
abbrev pub number : Refusal → ℕ
number Command = 21
number Number = 22
number (Page f) = page.number f

-- put, with its fields: place, key, lines, hits
abbrev pub put_of : List (List ℕ) → Result Call Refusal
put_of fs =
    cond (length fs == 4)
    (then (number_in (slice_index_or fs 0 [])) (λ place. then (number_in (slice_index_or fs 1 [])) (λ key. then (number_in (slice_index_or fs 2 [])) (λ lines. then (small_in (slice_index_or fs 3 [])) (λ hits. Ok (Put place key lines hits))))))
    (Err Command)

-- take, with its field: place
abbrev pub take_of : List (List ℕ) → Result Call Refusal
take_of fs = cond (length fs == 1) (then (number_in (slice_index_or fs 0 [])) (λ place. Ok (Take place))) (Err Command)

-- find, with its field: line
abbrev pub find_of : List (List ℕ) → Result Call Refusal
find_of fs = cond (length fs == 1) (then (number_in (slice_index_or fs 0 [])) (λ line. Ok (Find line))) (Err Command)

-- a command word, and the fields behind it
abbrev pub call_of : List (List ℕ) → Result Call Refusal
call_of [] = Err Command
call_of (w ∷ fs) =
    cond (bytes_eq w (codes "put")) (put_of fs) (cond (bytes_eq w (codes "take")) (take_of fs) (cond (bytes_eq w (codes "find")) (find_of fs) (Err Command)))

-- the call that a line asks for
abbrev pub call_in : List ℕ → Result Call Refusal
call_in line = call_of (fields_in line)
