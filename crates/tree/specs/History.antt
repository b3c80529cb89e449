-- The law of the tree over whole histories: it answers as a plain list that is fed the same calls.
use Rattle.std.specs.Prelude.{◌≡◌, ℕ, ◌-◌, ◌^◌, ◌<◌, ◌≤◌, cond, List, [], ◌∷◌, map, length, take, Some, None, Ok, Err, Option, Result, nat_lt}
use Rattle.std.specs.List.{slice_get}
use Rattle.tree.specs.Measures.{Operations}
use Rattle.tree.specs.Plain.{numbered, found, with_depth, insert_answer, after_insert, remove_answer, after_remove, total_answer}
use Rattle.tree.specs.Trees.{elements_of, depth_in, RowsSound, TotalsRight, least, places_at}
use Rattle.tree.specs.declared.fault.Fault.{Fault}
use Rattle.tree.specs.declared.history.Unrecorded.{Unrecorded}
use Rattle.tree.specs.declared.history.Unrecorded.TheVariants.{Outcomes, Answers}
use Rattle.tree.specs.declared.request.Change.{Change}
use Rattle.tree.specs.declared.request.Change.TheVariants.{Insert, Remove}
use Rattle.tree.specs.declared.request.Question.{Question}
use Rattle.tree.specs.declared.request.Question.TheVariants.{Read, Total}
use Rattle.tree.specs.declared.request.Told.{Told}
use Rattle.tree.specs.declared.request.Told.TheVariants.{Element, Sum}
use Rattle.tree.specs.declared.tree.Tree.{Tree}

-- an insertion that was accepted tells nothing, a removal its element
abbrev pub nothing_told : {E : Type 0} → Result (Unit {0}) ℕ → Result (Option E) ℕ
nothing_told (Ok _) = Ok None
nothing_told (Err n) = Err n

abbrev pub element_told : {E : Type 0} → Result E ℕ → Result (Option E) ℕ
element_told (Ok x) = Ok (Some x)
element_told (Err n) = Err n

-- what a plain list answers to a change, and what it then holds
abbrev pub change_answer : {E : Type 0} → ℕ → List E → Change E → Result (Option E) ℕ
change_answer room xs (Insert p x) = nothing_told (insert_answer room xs p)
change_answer room xs (Remove p) = element_told (remove_answer xs p)

abbrev pub after_change : {E : Type 0} → ℕ → List E → Change E → List E
after_change room xs (Insert p x) = after_insert room xs p x
after_change room xs (Remove p) = after_remove xs p

-- the same of a list of changes, one after the other
abbrev pub after_all : {E : Type 0} → ℕ → List E → List (Change E) → List E
after_all room xs [] = xs
after_all room xs (c ∷ cs) = after_all room (after_change room xs c) cs

abbrev pub answers_all : {E : Type 0} → ℕ → List E → List (Change E) → List (Result (Option E) ℕ)
answers_all room xs [] = []
answers_all room xs (c ∷ cs) = change_answer room xs c ∷ answers_all room (after_change room xs c) cs

abbrev pub read_told : {E T : Type 0} → Result (E × ℕ) ℕ → Result (Told E T) ℕ
read_told (Ok (x, d)) = Ok (Element x d)
read_told (Err n) = Err n

abbrev pub total_told : {E T : Type 0} → Result T ℕ → Result (Told E T) ℕ
total_told (Ok t) = Ok (Sum t)
total_told (Err n) = Err n

-- what a plain list answers to a question, where each place has a depth
abbrev pub question_answer : {E T : Type 0} → Operations E T → List E → (ℕ → ℕ) → Question → Result (Told E T) ℕ
question_answer k xs deep (Read p) = read_told (with_depth (deep p) (found (slice_get xs p)))
question_answer k xs deep (Total first end) = total_told (total_answer k xs first end)

-- the list that is too short for its answers, that of the changes first
abbrev pub short_list : ℕ → ℕ → ℕ → ℕ → Result (Unit {0}) Unrecorded
short_list changes outcomes questions answers = cond (nat_lt outcomes changes) (Err Outcomes) (cond (nat_lt answers questions) (Err Answers) (Ok tt))

-- The law: a tree began empty, was changed by any list of insertions and removals, the refused counted in, and was then asked any list of
-- questions. The plain list of the same room, fed the same changes, refused the same with the same numbers; the tree holds what it holds, in
-- sound rows whose stored totals are right; each element and total told is the plain list's, each depth is counted in the rows, and read and
-- total refuse just where the plain list's length says; a place of depth d shows that at least `least d` elements are there, and at most
-- 2 ^ (d - 1) places have the depth d.
pub record History {E T : Type 0} (k : Operations E T) (room : ℕ) (changes : List (Change E)) (outcomes : List (Result (Option E) Fault)) (questions : List Question) (answers : List (Result (Told E T) Fault)) (t : Tree E T) : Type 0 where
  pub answered : map numbered (take (length changes) outcomes) ≡ answers_all room [] changes
  pub held : elements_of t ≡ after_all room [] changes
  pub rows : RowsSound t
  pub totals : TotalsRight k t
  pub told : map numbered (take (length questions) answers) ≡ map (question_answer k (after_all room [] changes) (depth_in t)) questions
  pub deep : (p : ℕ) → p < length (after_all room [] changes) → least (depth_in t p) ≤ length (after_all room [] changes)
  pub sparse : (d : ℕ) → places_at (depth_in t) d (length (after_all room [] changes)) ≤ 2 ^ (d - 1)
