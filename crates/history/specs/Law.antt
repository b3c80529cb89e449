-- The law over whole histories.
use Rattle.std.specs.Prelude.{◌≡◌, ℕ, ◌-◌, ◌^◌, ◌<◌, ◌≤◌, List, [], map, length, take, Option, Result}
use Rattle.std.specs.Result.{result_and}
use Rattle.tree.specs.History.{History}
use Rattle.tree.specs.Recordings.{short_of}
use Rattle.tree.specs.Measures.{Operations}
use Rattle.tree.specs.Trees.{depth_in, least, places_at}
use Rattle.tree.specs.declared.fault.Fault.{Fault}
use Rattle.tree.specs.declared.history.Unrecorded.{Unrecorded}
use Rattle.tree.specs.declared.history.Recording.{Recording}
use Rattle.tree.specs.declared.request.Change.{Change as TreeChange}
use Rattle.tree.specs.declared.request.Question.{Question as TreeQuestion}
use Rattle.tree.specs.declared.request.Told.{Told as TreeTold}
use Rattle.tree.specs.declared.tree.Tree.{Tree}
use Rattle.rules.specs.declared.classes.Direction.{Direction}
use Rattle.bidi.specs.declared.item.Item.{Item}
use Rattle.paragraph.specs.Faults.{numbered}
use Rattle.paragraph.specs.declared.fault.ParagraphFault.{ParagraphFault}
use Rattle.paragraph.specs.declared.outcome.Outcome.{Outcome}
use Rattle.paragraph.specs.declared.paragraph.Paragraph.{Paragraph}
use Rattle.paragraph.specs.Plain.{Plain}
use Rattle.paragraph.specs.Paragraphs.{plain_of}
use Rattle.history.specs.Plain.{after_all, Answered}
use Rattle.history.specs.Questions.{question_answer}
use Rattle.history.specs.declared.request.Change.{Change}
use Rattle.history.specs.declared.request.Question.{Question}
use Rattle.history.specs.declared.request.Told.{Told}

-- a plain paragraph without items
abbrev pub empty : Direction → Plain
empty d = record { direction = d; items = [] }

-- A paragraph began empty, was changed by any list of edits and turns, the refused counted in, and was then asked any list of questions.
-- The plain paragraph of the same room, fed the same changes, refused the same with the same numbers and positions; each accepted change told
-- the number of items, the base level, and the span from the first to the last item of the plain paragraph that was new or had a level unlike
-- its former one, and no span if there was none; the paragraph is what the plain one is; each level and column told is the rules' for it, and
-- both refuse just where its length says; each depth is counted in the rows, a place of depth d shows that at least `least d` items are there,
-- and at most 2 ^ (d - 1) places have the depth d.
pub record ParagraphHistory (room : ℕ) (direction : Direction) (recorded : List Item) (changes : List Change) (outcomes : List (Result Outcome ParagraphFault)) (questions : List Question) (answers : List (Result Told ParagraphFault)) (p : Paragraph) : Type 0 where
  pub answered : Answered room recorded (empty direction) changes (take (length changes) outcomes)
  pub plain : plain_of p ≡ after_all room recorded (empty direction) changes
  pub told : map numbered (take (length questions) answers) ≡ map (question_answer (after_all room recorded (empty direction) changes) (depth_in p.tree.now)) questions
  pub deep : (place : ℕ) → place < length (after_all room recorded (empty direction) changes).items → least (depth_in p.tree.now place) ≤ length (after_all room recorded (empty direction) changes).items
  pub sparse : (d : ℕ) → places_at (depth_in p.tree.now) d (length (after_all room recorded (empty direction) changes).items) ≤ 2 ^ (d - 1)

-- the list that is too short for its answers: those of the paragraph are looked at first
abbrev pub shortest : {C O Q A D P R B : Type 0} → Recording C O Q A → Recording D P R B → Result (Unit {0}) Unrecorded
shortest tree_calls calls = result_and (short_of calls) (short_of tree_calls)

-- The law: of a tree, for every lawful measure, and of a paragraph, each begun empty, changed by any list of calls and asked any list of questions.
pub record Law {E T : Type 0} (k : Operations E T) (room : ℕ) (tree_changes : List (TreeChange E)) (tree_outcomes : List (Result (Option E) Fault)) (tree_questions : List TreeQuestion) (tree_answers : List (Result (TreeTold E T) Fault)) (tree : Tree E T) (paragraph_room : ℕ) (direction : Direction) (recorded : List Item) (changes : List Change) (outcomes : List (Result Outcome ParagraphFault)) (questions : List Question) (answers : List (Result Told ParagraphFault)) (paragraph : Paragraph) : Type 0 where
  pub of_tree : History k room tree_changes tree_outcomes tree_questions tree_answers tree
  pub of_paragraph : ParagraphHistory paragraph_room direction recorded changes outcomes questions answers paragraph
