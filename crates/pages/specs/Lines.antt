-- Bytes, cut at marks: the lines of a text and the fields of a line.
use Rattle.std.specs.Prelude.{ℕ, ◌+◌, cond, List, [], ◌∷◌, length, drop, Some, None, Option, ◌==◌, nat_lt}

-- one byte more at the front of the first piece
abbrev pub longer : ℕ → List (List ℕ) → List (List ℕ)
longer b [] = (b ∷ []) ∷ []
longer b (p ∷ ps) = (b ∷ p) ∷ ps

-- the pieces between marks; the second argument is what follows the last byte
abbrev pub pieces : ℕ → List (List ℕ) → List ℕ → List (List ℕ)
pieces mark end [] = end
pieces mark end (b ∷ bs) = cond (b == mark) ([] ∷ pieces mark end bs) (longer b (pieces mark end bs))

-- the lines of a text: each ends at a line feed, and the last may lack it
abbrev pub lines_in : List ℕ → List (List ℕ)
lines_in text = pieces 10 [] text

-- the fields of a line: tabs part them
abbrev pub fields_in : List ℕ → List (List ℕ)
fields_in line = pieces 9 ([] ∷ []) line

-- where the first mark is, or the length
abbrev pub first_at : ℕ → List ℕ → ℕ
first_at mark [] = 0
first_at mark (b ∷ bs) = cond (b == mark) 0 (first_at mark bs + 1)

-- what follows the first mark, if there is one
abbrev pub behind : ℕ → List ℕ → Option (List ℕ)
behind mark bs = cond (nat_lt (first_at mark bs) (length bs)) (Some (drop (first_at mark bs + 1) bs)) None

-- the fields in what is left of a line, and the lines in what is left of a text, if anything is
abbrev pub fields_left : Option (List ℕ) → List (List ℕ)
fields_left None = []
fields_left (Some bs) = fields_in bs

abbrev pub lines_left : Option (List ℕ) → List (List ℕ)
lines_left None = []
lines_left (Some bs) = lines_in bs
