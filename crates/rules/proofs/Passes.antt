-- W5 by a flag, and N1 and N2 in one pass: forms of the rules that are easier to follow item by item.
use Rattle.std.proofs.Common.{◌≡◌, Bool, cond, ◌&&◌, ◌||◌, List, [], ◌∷◌, map, refl, ap, ◌∙◌, ap₂}
use Rattle.rules.specs.declared.classes.Class.{Class}
use Rattle.rules.specs.declared.classes.Class.TheVariants.{L, EN, ET}
use Rattle.rules.specs.declared.classes.Side.{Side}
use Rattle.rules.specs.declared.classes.Side.TheVariants.{L as side_L, R as side_R}
use Rattle.rules.specs.Classes.{is, is_neutral, letter}
use Rattle.rules.specs.Rules.{leads_to_EN, W5, side, ahead, N1, N2}
use Rattle.rules.specs.Finite.{every, at₂, alike, same, classes, sides, bools}

-- W5, where `joined` says that the item before is EN
abbrev pub w5 : Bool → List Class → List Class
w5 joined [] = []
w5 joined (c ∷ cs) = let e = is c EN || (is c ET && (joined || leads_to_EN cs)) in cond e EN c ∷ w5 e cs

-- one item, where `near` says that an EN is before it or led to
abbrev rule_W5 : Class → Bool → Class
rule_W5 c near = cond (is c ET && near) EN c

abbrev flag_W5 : Class → Bool → Bool
flag_W5 c near = is c EN || (is c ET && near)

item_W5 : (c : Class) (near : Bool) → rule_W5 c near ≡ cond (flag_W5 c near) EN c
item_W5 c near = same classes _ _ (at₂ classes bools (λ c near. is (rule_W5 c near) (cond (flag_W5 c near) EN c)) tt c near)

told_W5 : (c : Class) (near : Bool) → is (rule_W5 c near) EN ≡ flag_W5 c near
told_W5 c near = same bools _ _ (at₂ classes bools (λ c near. alike bools (is (rule_W5 c near) EN) (flag_W5 c near)) tt c near)

pub W5ByFlag : (before : Class) (cs : List Class) → W5 before cs ≡ w5 (is before EN) cs
W5ByFlag before [] = refl
W5ByFlag before (c ∷ cs) =
    let near : Bool = is before EN || leads_to_EN cs in
    ap₂ (λ (x : Class) (xs : List Class). x ∷ xs) (item_W5 c near) (W5ByFlag (rule_W5 c near) cs ∙ ap (λ e. w5 e cs) (told_W5 c near))

-- N1 and N2, where d is the direction before
abbrev pub side_after : Side → Class → Side
side_after d c = cond (is_neutral c) d (cond (is c L) side_L side_R)

abbrev pub n12 : Side → Side → List Class → List Class
n12 base d [] = []
n12 base d (c ∷ cs) = cond (is_neutral c) (cond (is (letter d) (ahead (letter base) cs)) (letter d) (letter base)) c ∷ n12 base (side_after d c) cs

-- one item, where `agree` says that one direction stands on both sides
abbrev rule_N : Side → Side → Class → Bool → Class
rule_N base d c agree = N2 base (cond (is_neutral c && agree) (letter d) c)

abbrev once_N : Side → Side → Class → Bool → Class
once_N base d c agree = cond (is_neutral c) (cond agree (letter d) (letter base)) c

item_N : (base d : Side) (c : Class) (agree : Bool) → rule_N base d c agree ≡ once_N base d c agree
item_N base d c agree =
    same classes _ _
    (at₂ classes bools (λ c agree. is (rule_N base d c agree) (once_N base d c agree))
    (at₂ sides sides (λ base d. every classes λ c. every bools λ agree. is (rule_N base d c agree) (once_N base d c agree)) tt base d)
    c agree)

told_N : (d : Side) (c : Class) → cond (is_neutral c) (letter d) (side c) ≡ letter (side_after d c)
told_N d c = same classes _ _ (at₂ sides classes (λ d c. is (cond (is_neutral c) (letter d) (side c)) (letter (side_after d c))) tt d c)

pub N1N2Once : (base d : Side) (cs : List Class) → map (N2 base) (N1 (letter d) (letter base) cs) ≡ n12 base d cs
N1N2Once base d [] = refl
N1N2Once base d (c ∷ cs) =
    ap₂ (λ (x : Class) (xs : List Class). x ∷ xs)
    (item_N base d c (is (letter d) (ahead (letter base) cs)))
    (ap (λ e. map (N2 base) (N1 e (letter base) cs)) (told_N d c) ∙ N1N2Once base (side_after d c) cs)
