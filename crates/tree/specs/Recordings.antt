-- What a call does with a recording: which of its lists is too short, and what it leaves of it.
use Rattle.std.specs.Prelude.{◌≡◌, length, drop, Result}
use Rattle.tree.specs.History.{short_list}
use Rattle.tree.specs.Plain.{Untouched}
use Rattle.tree.specs.declared.history.Recording.{Recording}
use Rattle.tree.specs.declared.history.Unrecorded.{Unrecorded}

-- the first list that is too short for its answers, the one for the changes looked at first; `Ok` where both are long enough
abbrev pub short_of : {C O Q A : Type 0} → Recording C O Q A → Result (Unit {0}) Unrecorded
short_of r = short_list (length r.changes.now) (length r.outcomes.now) (length r.questions.now) (length r.answers.now)

-- the calls are the same, and each list is still the one that was lent: two references with one `ghost_name` are one borrow
abbrev pub SameRecording : {C O Q A : Type 0} → Recording C O Q A → Recording C O Q A → Type 0
SameRecording old new =
    (new.changes ≡ old.changes) × (new.questions ≡ old.questions)
    × (new.outcomes.ghost_name ≡ old.outcomes.ghost_name) × (new.answers.ghost_name ≡ old.answers.ghost_name)

-- entries past the answers are as they were
abbrev pub SpareEntriesStay : {C O Q A : Type 0} → Recording C O Q A → Recording C O Q A → Type 0
SpareEntriesStay old new =
    (drop (length old.changes.now) new.outcomes.now ≡ drop (length old.changes.now) old.outcomes.now)
    × (drop (length old.questions.now) new.answers.now ≡ drop (length old.questions.now) old.answers.now)

-- a refused call left both lists as they were
abbrev pub ListsUntouched : {C O Q A X Y : Type 0} → Result X Y → Recording C O Q A → Recording C O Q A → Type 0
ListsUntouched answer old new = Untouched answer old.outcomes.now new.outcomes.now × Untouched answer old.answers.now new.answers.now
