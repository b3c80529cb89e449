-- What the rules see of the items that follow is what the right context holds.
use Rattle.std.proofs.Common.{◌≡◌, Bool, true, false, cond, not, ◌&&◌, ◌||◌, T, List, [], ◌∷◌, map, sym, refl, ap, ◌∙◌, subst}
use mathlib.Core.Path.{subst⁻¹}
use Rattle.rules.specs.declared.classes.Class.{Class}
use Rattle.rules.specs.declared.classes.Class.TheVariants.{L, R, AL, EN, ES, ET, AN, CS, NSM, S, WS, ON}
use Rattle.rules.specs.declared.classes.Strong.{Strong}
use Rattle.rules.specs.declared.classes.Strong.TheVariants.{L as strong_L, R as strong_R, AL as strong_AL}
use Rattle.rules.specs.declared.classes.Side.{Side}
use Rattle.rules.specs.declared.classes.Side.TheVariants.{L as side_L, R as side_R}
use Rattle.rules.specs.declared.contexts.First.TheVariants.{European as first_EN}
use Rattle.rules.specs.Classes.{is, is_neutral, letter}
use Rattle.rules.specs.Rules.{W1, W2, W3, W4, W6, W7, joins, next, leads_to_EN, ahead}
use Rattle.rules.specs.Contexts.{facing, number_side}
use Rattle.rules.specs.Claims.{right_of}
use Rattle.rules.specs.Finite.{every, at, is_false, when, met, classes}
use Rattle.rules.proofs.Passes.{w5}

-- a strong class among all classes
abbrev pub class_of : Strong → Class
class_of strong_L = L
class_of strong_R = R
class_of strong_AL = AL

-- European numbers stay European: the last strong class is not AL
abbrev pub stays : Strong → Bool
stays s = not (is (class_of s) AL)

-- W1 to W3, and W2 to W7, from the states that they have come to
abbrev pub front : Class → Class → List Class → List Class
front p s cs = map W3 (W2 s (W1 p cs))

abbrev pub back : Side → Class → Class → Bool → Class → List Class → List Class
back b s t e q ys = W7 t (map W6 (w5 e (W4 q (letter b) (map W3 (W2 s ys)))))

-- W5 looks past terminators
pub leads_right : (b : Side) (s : Strong) (cs : List Class) → leads_to_EN (W4 ET (letter b) (front ET (class_of s) cs)) ≡ ((right_of b cs).leads && stays s)
leads_right b s [] = refl
leads_right b s (L ∷ cs) = refl
leads_right b s (R ∷ cs) = refl
leads_right b s (AL ∷ cs) = refl
leads_right b strong_L (EN ∷ cs) = refl
leads_right b strong_R (EN ∷ cs) = refl
leads_right b strong_AL (EN ∷ cs) = refl
leads_right b s (ES ∷ cs) = refl
leads_right b s (ET ∷ cs) = leads_right b s cs
leads_right b s (AN ∷ cs) = refl
leads_right b s (CS ∷ cs) = refl
leads_right b s (NSM ∷ cs) = leads_right b s cs
leads_right b s (S ∷ cs) = refl
leads_right b s (WS ∷ cs) = refl
leads_right b s (ON ∷ cs) = refl

leads_first : (b : Side) (cs : List Class) → T (right_of b cs).leads → (right_of b cs).first ≡ first_EN
leads_first b [] t = absurd t
leads_first b (L ∷ cs) t = absurd t
leads_first b (R ∷ cs) t = absurd t
leads_first b (AL ∷ cs) t = absurd t
leads_first b (EN ∷ cs) t = refl
leads_first b (ES ∷ cs) t = absurd t
leads_first b (ET ∷ cs) t = leads_first b cs t
leads_first b (AN ∷ cs) t = absurd t
leads_first b (CS ∷ cs) t = absurd t
leads_first b (NSM ∷ cs) t = leads_first b cs t
leads_first b (S ∷ cs) t = absurd t
leads_first b (WS ∷ cs) t = absurd t
leads_first b (ON ∷ cs) t = absurd t

-- what can stay neutral up to N1
abbrev pub weak : Class → Bool
weak c = is c ES || (is c CS || (is c ET || is_neutral c))

unjoined : (p : Class) → T (weak p) → (c n : Class) → joins p c n ≡ false
unjoined p t c n =
    is_false _
    (at classes (λ n. not (joins p c n))
    (at classes (λ c. every classes λ n. not (joins p c n))
    (met (weak p) _ (at classes (λ p. when (weak p) λ _. every classes λ c. every classes λ n. not (joins p c n)) tt p) t)
    c)
    n)

-- the direction of a number after the last strong class
number_ahead : (s : Strong) (b : Side) (W : List Class) → ahead (letter b) (cond (is (W3 (class_of s)) L) L EN ∷ W) ≡ letter (number_side s)
number_ahead strong_L b W = refl
number_ahead strong_R b W = refl
number_ahead strong_AL b W = refl

Sees : Side → Strong → Class → List Class → Type 0
Sees b s p cs = ahead (letter b) (back b (class_of s) (W3 (class_of s)) false p (W1 p cs)) ≡ letter (facing s (right_of b cs).first)

module _ (b : Side) (s : Strong) (cs : List Class) where
  -- a sequence of terminators: it became EN, or it stays neutral
  terminators : (v : Bool) → v ≡ ((right_of b cs).leads && stays s) → Sees b s ET cs
      → ahead (letter b) (W7 (W3 (class_of s)) (map W6 (cond v EN ET ∷ w5 v (W4 ET (letter b) (front ET (class_of s) cs))))) ≡ letter (facing s (right_of b cs).first)
  unfolding Sees
  terminators true e ih =
      number_ahead s b (W7 (W3 (class_of s)) (map W6 (w5 true (W4 ET (letter b) (front ET (class_of s) cs))))) ∙ go (right_of b cs).leads refl e
    where
      go : (u : Bool) → (right_of b cs).leads ≡ u → true ≡ (u && stays s) → letter (number_side s) ≡ letter (facing s (right_of b cs).first)
      go true f e = sym (ap (λ x. letter (facing s x)) (leads_first b cs (subst⁻¹ T f tt)))
      go false f e = absurd (subst T e tt)
  terminators false e ih = ih

  -- the item has the class c after W1
  weak_step : (p : Class) → T (weak p) → (c : Class) → T (weak c) → Sees b s c cs
      → ahead (letter b) (back b (class_of s) (W3 (class_of s)) false p (c ∷ W1 c cs)) ≡ letter (facing s (right_of b cs).first)
  unfolding Sees
  weak_step p w L t ih = absurd t
  weak_step p w R t ih = absurd t
  weak_step p w AL t ih = absurd t
  weak_step p w EN t ih = absurd t
  weak_step p w ES t ih =
      subst⁻¹ (λ (v : Bool). ahead (letter b) (W7 (W3 (class_of s)) (map W6 (w5 false (cond v p ES ∷ W4 ES (letter b) (front ES (class_of s) cs))))) ≡ letter (facing s (right_of b cs).first))
      (unjoined p w ES (next (letter b) (front ES (class_of s) cs)))
      ih
  weak_step p w ET t ih = terminators (leads_to_EN (W4 ET (letter b) (front ET (class_of s) cs))) (leads_right b s cs) ih
  weak_step p w AN t ih = absurd t
  weak_step p w CS t ih =
      subst⁻¹ (λ (v : Bool). ahead (letter b) (W7 (W3 (class_of s)) (map W6 (w5 false (cond v p CS ∷ W4 CS (letter b) (front CS (class_of s) cs))))) ≡ letter (facing s (right_of b cs).first))
      (unjoined p w CS (next (letter b) (front CS (class_of s) cs)))
      ih
  weak_step p w NSM t ih = absurd t
  weak_step p w S t ih = ih
  weak_step p w WS t ih = ih
  weak_step p w ON t ih = ih

-- N1 looks past neutrals
pub sees : (b : Side) (s : Strong) (p : Class) → T (weak p) → (cs : List Class)
    → ahead (letter b) (back b (class_of s) (W3 (class_of s)) false p (W1 p cs)) ≡ letter (facing s (right_of b cs).first)
unfolding Sees
sees side_L s p w [] = refl
sees side_R s p w [] = refl
sees b s p w (L ∷ cs) = refl
sees b s p w (R ∷ cs) = refl
sees b s p w (AL ∷ cs) = refl
sees b strong_L p w (EN ∷ cs) = refl
sees b strong_R p w (EN ∷ cs) = refl
sees b strong_AL p w (EN ∷ cs) = refl
sees b s p w (ES ∷ cs) = weak_step b s cs p w ES tt (sees b s ES tt cs)
sees b s p w (ET ∷ cs) = weak_step b s cs p w ET tt (sees b s ET tt cs)
sees b s p w (AN ∷ cs) = refl
sees b s p w (CS ∷ cs) = weak_step b s cs p w CS tt (sees b s CS tt cs)
sees b s p w (NSM ∷ cs) = weak_step b s cs p w p w (sees b s p w cs)
sees b s p w (S ∷ cs) = weak_step b s cs p w S tt (sees b s S tt cs)
sees b s p w (WS ∷ cs) = weak_step b s cs p w WS tt (sees b s WS tt cs)
sees b s p w (ON ∷ cs) = weak_step b s cs p w ON tt (sees b s ON tt cs)
