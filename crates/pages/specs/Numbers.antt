-- Numbers in fields.
use Rattle.std.specs.Prelude.{ℕ, ◌+◌, ◌-◌, ◌*◌, cond, ◌&&◌, List, [], ◌∷◌, length, Some, None, Ok, Err, Option, Result, ◌==◌, nat_lt, slice_index}
use Rattle.std.specs.Option.{ok_or}
use Rattle.pages.specs.declared.call.Refusal.{Refusal}
use Rattle.pages.specs.declared.call.Refusal.TheVariants.{Number}

-- the number that more digits make of n, if each byte is a digit
abbrev pub read_on : ℕ → List ℕ → Option ℕ
read_on n [] = Some n
read_on n (b ∷ bs) = cond (nat_lt b 48) None (cond (nat_lt 57 b) None (read_on (n * 10 + (b - 48)) bs))

-- one to nine digits, the first of them not 0 unless it is the only one
abbrev pub number_in : List ℕ → Result ℕ Refusal
number_in bs =
    cond (nat_lt (length bs) 1) (Err Number) (cond (nat_lt 9 (length bs)) (Err Number)
    (cond (nat_lt 1 (length bs) && slice_index bs 0 == 48) (Err Number) (ok_or (read_on 0 bs) Number)))

-- the second step, where the first did not refuse
abbrev pub then : {A B E : Type 0} → Result A E → (A → Result B E) → Result B E
then (Ok x) f = f x
then (Err e) f = Err e

-- a number that is at most 65,535
abbrev pub small_in : List ℕ → Result ℕ Refusal
small_in bs = then (number_in bs) (λ n. cond (nat_lt 65535 n) (Err Number) (Ok n))
