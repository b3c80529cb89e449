-- The plain list: what it answers to each call, and what it then holds. The letter n of a refusal is its length.
use Rattle.std.specs.Prelude.{◌≡◌, ℕ, ◌+◌, ◌-◌, min, Bool, cond, ◌&&◌, List, [], ◌∷◌, ◌++◌, length, take, drop, Some, None, Ok, Err, Option, Result, nat_le, nat_lt}
use Rattle.std.specs.List.{slice_get, insert, remove, between}
use Rattle.tree.specs.Measures.{Operations, total_of}
use Rattle.tree.specs.declared.fault.Fault.{Fault}
use Rattle.tree.specs.declared.fault.Fault.TheVariants.{Place, Full, Stretch, Weight}

-- the number of each refusal
abbrev pub number : Fault → ℕ
number Place = 1
number Full = 2
number Stretch = 3
number Weight = 4

-- an answer, with the number of the refusal in place of the fault
abbrev pub numbered : {A : Type 0} → Result A Fault → Result A ℕ
numbered (Ok x) = Ok x
numbered (Err f) = Err (number f)

-- the first of two where a call was accepted, the second where it was refused
abbrev pub accepted : {A B X : Type 0} → Result A B → X → X → X
accepted (Ok x) new old = new
accepted (Err f) new old = old

-- a refused call left what it was called on as it was
abbrev pub Untouched : {A B X : Type 0} → Result A B → X → X → Type 0
Untouched (Ok x) old new = Unit {0}
Untouched (Err f) old new = new ≡ old

-- the element that was found, or the refusal 1
abbrev pub found : {E : Type 0} → Option E → Result E ℕ
found None = Err 1
found (Some x) = Ok x

-- an accepted element beside its depth
abbrev pub with_depth : {E B : Type 0} → ℕ → Result E B → Result (E × ℕ) B
with_depth d (Ok x) = Ok (x, d)
with_depth d (Err f) = Err f

-- first to end is a stretch of a list
abbrev pub fits : {E : Type 0} → List E → ℕ → ℕ → Bool
fits xs first end = nat_le first end && nat_le end (length xs)

-- the elements before first, then new ones, then those from end on
abbrev pub spliced : {E : Type 0} → List E → ℕ → ℕ → List E → List E
spliced xs first end ys = take first xs ++ (ys ++ drop end xs)

-- insertion before a place into a list that has room for so many
abbrev pub insert_answer : {E : Type 0} → ℕ → List E → ℕ → Result (Unit {0}) ℕ
insert_answer room xs p = cond (nat_lt (length xs) p) (Err 1) (cond (nat_le room (length xs)) (Err 2) (Ok tt))

abbrev pub after_insert : {E : Type 0} → ℕ → List E → ℕ → E → List E
after_insert room xs p x = accepted (insert_answer room xs p) (insert xs p x) xs

-- removal of the element at a place, which is the answer
abbrev pub remove_answer : {E : Type 0} → List E → ℕ → Result E ℕ
remove_answer xs p = found (slice_get xs p)

abbrev pub after_remove : {E : Type 0} → List E → ℕ → List E
after_remove xs p = accepted (remove_answer xs p) (remove xs p) xs

-- replacement of a stretch by new elements
abbrev pub replace_answer : {E : Type 0} → ℕ → List E → ℕ → ℕ → List E → Result (Unit {0}) ℕ
replace_answer room xs first end ys =
    cond (fits xs first end) (cond (nat_lt room (length xs - (end - first) + length ys)) (Err 2) (Ok tt)) (Err 3)

abbrev pub after_replace : {E : Type 0} → ℕ → List E → ℕ → ℕ → List E → List E
after_replace room xs first end ys = accepted (replace_answer room xs first end ys) (spliced xs first end ys) xs

-- the total of a stretch
abbrev pub total_answer : {E T : Type 0} → Operations E T → List E → ℕ → ℕ → Result T ℕ
total_answer k xs first end = cond (fits xs first end) (Ok (total_of k (between first end xs))) (Err 3)

-- the first place whose element weighs more than w with all before it, whose total is t
abbrev pub first_over : {E T : Type 0} → Operations E T → ℕ → T → List E → ℕ
first_over k w t [] = 0
first_over k w t (x ∷ xs) = cond (nat_lt w (k.weight (k.join t (k.of x)))) 0 (1 + first_over k w (k.join t (k.of x)) xs)

-- the place that a weight leads to
abbrev pub seek_answer : {E T : Type 0} → Operations E T → List E → ℕ → Result ℕ ℕ
seek_answer k xs w = cond (nat_le (k.weight (total_of k xs)) w) (Err 4) (Ok (first_over k w k.unit xs))

-- an accepted element between the total of all before it and the total of all behind it
abbrev pub with_sides : {E T : Type 0} → Operations E T → List E → ℕ → Result E ℕ → Result (T × E × T) ℕ
with_sides k xs p (Ok x) = Ok (total_of k (take p xs), x, total_of k (drop (p + 1) xs))
with_sides k xs p (Err n) = Err n

-- the element at a place between the totals on either side of it, or a refusal
abbrev pub around_answer : {E T : Type 0} → Operations E T → List E → ℕ → Result (T × E × T) ℕ
around_answer k xs p = with_sides k xs p (found (slice_get xs p))

-- how many elements from a place on are copied to so many entries
abbrev pub copy_answer : {E : Type 0} → List E → ℕ → ℕ → Result ℕ ℕ
copy_answer xs first room = cond (nat_lt (length xs) first) (Err 1) (Ok (min room (length xs - first)))

-- the entries then: the elements that fit, and what was behind them
abbrev pub copied : {E : Type 0} → List E → ℕ → List E → List E
copied xs first out = take (length out) (drop first xs) ++ drop (length xs - first) out
