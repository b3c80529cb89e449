-- A fact about each of finitely many values, by one computed test. Proofs use it; no statement does.
use Rattle.std.specs.Prelude.{◌≡◌, ℕ, zero, suc, Bool, true, false, not, ◌&&◌, T, List, [], ◌∷◌, Some, ◌==◌, refl}
use Rattle.std.proofs.Common.{ap, subst, arith, eqb→eq}
use Rattle.std.specs.List.{slice_get}
use Rattle.rules.specs.declared.classes.Class.{Class}
use Rattle.rules.specs.declared.classes.Class.TheVariants.{L, R, AL, EN, ES, ET, AN, CS, NSM, S, WS, ON}
use Rattle.rules.specs.declared.classes.Strong.{Strong}
use Rattle.rules.specs.declared.classes.Strong.TheVariants.{L as strong_L, R as strong_R, AL as strong_AL}
use Rattle.rules.specs.declared.classes.Side.{Side}
use Rattle.rules.specs.declared.classes.Side.TheVariants.{L as side_L, R as side_R}
use Rattle.rules.specs.declared.contexts.Kind.{Kind}
use Rattle.rules.specs.declared.contexts.Kind.TheVariants.{Strong as is_strong, European, Arabic, Terminator, Joined, Neutral}
use Rattle.rules.specs.declared.contexts.Left.{Left}
use Rattle.rules.specs.declared.contexts.Next.{Next}
use Rattle.rules.specs.declared.contexts.Next.TheVariants.{European as next_EN, Arabic as next_AN, Other as next_other}
use Rattle.rules.specs.declared.contexts.First.{First}
use Rattle.rules.specs.declared.contexts.First.TheVariants.{L as first_L, R as first_R, European as first_EN}
use Rattle.rules.specs.declared.contexts.Right.{Right}
use Rattle.rules.specs.Classes.{rank}

-- tests
pub fst : (a b : Bool) → T (a && b) → T a
fst true b t = tt
fst false b t = t

pub snd : (a b : Bool) → T (a && b) → T b
snd true b t = t
snd false b t = absurd t

pub is_false : (b : Bool) → T (not b) → b ≡ false
is_false true t = absurd t
is_false false t = refl

-- a test under a premise: the rest is computed only where the premise holds
abbrev pub when : Bool → (Unit {0} → Bool) → Bool
when true k = k tt
when false k = true

pub met : (g : Bool) (k : Unit {0} → Bool) → T (when g k) → T g → T (k tt)
met true k t u = t
met false k t u = absurd u

-- a test at each element of a list
abbrev pub all : {X : Type 0} → (X → Bool) → List X → Bool
all f [] = true
all f (x ∷ xs) = f x && all f xs

pub at_place : {X : Type 0} (f : X → Bool) (xs : List X) → T (all f xs) → (n : ℕ) (x : X) → slice_get xs n ≡ Some x → T (f x)
at_place f [] t n x e = let z : ◌≡◌ {A = ℕ} 0 1 = cc in absurd (omega arith)
at_place f (y ∷ ys) t zero x e = let same : y ≡ x = cc in subst (λ z. T (f z)) same (fst (f y) _ t)
at_place f (y ∷ ys) t (suc n) x e = at_place f ys (snd (f y) _ t) n x e

-- a type of finitely many values: the values, and where each stands among them
pub record Finite (X : Type 0) : Type 0 where
  pub values : List X
  pub place : X → ℕ
  pub found : (x : X) → slice_get values (place x) ≡ Some x

abbrev pub every : {X : Type 0} → Finite X → (X → Bool) → Bool
every F f = all f F.values

pub at : {X : Type 0} (F : Finite X) (f : X → Bool) → T (every F f) → (x : X) → T (f x)
at F f t x = at_place f F.values t (F.place x) x (F.found x)

pub at₂ : {X Y : Type 0} (F : Finite X) (G : Finite Y) (f : X → Y → Bool) → T (every F λ x. every G (f x)) → (x : X) (y : Y) → T (f x y)
at₂ F G f t x y = at G (f x) (at F (λ x. every G (f x)) t x) y

abbrev pub alike : {X : Type 0} → Finite X → X → X → Bool
alike F x y = F.place x == F.place y

pub same : {X : Type 0} (F : Finite X) (x y : X) → T (alike F x y) → x ≡ y
same F x y t =
    let p : F.place x ≡ F.place y = eqb→eq (F.place x) (F.place y) t in
    let q : slice_get F.values (F.place x) ≡ slice_get F.values (F.place y) = ap (slice_get F.values) p in
    let u : slice_get F.values (F.place x) ≡ Some x = F.found x in
    let v : slice_get F.values (F.place y) ≡ Some y = F.found y in
    cc

-- the types of the rules
abbrev bool_place : Bool → ℕ
bool_place true = 0
bool_place false = 1

abbrev pub bools : Finite Bool
bools = record { values = true ∷ false ∷ []; place = bool_place; found = found }
  where
    found : (x : Bool) → slice_get (true ∷ false ∷ []) (bool_place x) ≡ Some x
    found true = refl
    found false = refl

abbrev pub classes : Finite Class
classes = record { values = L ∷ R ∷ AL ∷ EN ∷ ES ∷ ET ∷ AN ∷ CS ∷ NSM ∷ S ∷ WS ∷ ON ∷ []; place = rank; found = found }
  where
    found : (c : Class) → slice_get (L ∷ R ∷ AL ∷ EN ∷ ES ∷ ET ∷ AN ∷ CS ∷ NSM ∷ S ∷ WS ∷ ON ∷ []) (rank c) ≡ Some c
    found L = refl
    found R = refl
    found AL = refl
    found EN = refl
    found ES = refl
    found ET = refl
    found AN = refl
    found CS = refl
    found NSM = refl
    found S = refl
    found WS = refl
    found ON = refl

abbrev strong_place : Strong → ℕ
strong_place strong_L = 0
strong_place strong_R = 1
strong_place strong_AL = 2

abbrev pub strongs : Finite Strong
strongs = record { values = strong_L ∷ strong_R ∷ strong_AL ∷ []; place = strong_place; found = found }
  where
    found : (x : Strong) → slice_get (strong_L ∷ strong_R ∷ strong_AL ∷ []) (strong_place x) ≡ Some x
    found strong_L = refl
    found strong_R = refl
    found strong_AL = refl

abbrev side_place : Side → ℕ
side_place side_L = 0
side_place side_R = 1

abbrev pub sides : Finite Side
sides = record { values = side_L ∷ side_R ∷ []; place = side_place; found = found }
  where
    found : (x : Side) → slice_get (side_L ∷ side_R ∷ []) (side_place x) ≡ Some x
    found side_L = refl
    found side_R = refl

abbrev kind_place : Kind → ℕ
kind_place is_strong = 0
kind_place European = 1
kind_place Arabic = 2
kind_place Terminator = 3
kind_place Joined = 4
kind_place Neutral = 5

abbrev pub kinds : Finite Kind
kinds = record { values = is_strong ∷ European ∷ Arabic ∷ Terminator ∷ Joined ∷ Neutral ∷ []; place = kind_place; found = found }
  where
    found : (x : Kind) → slice_get (is_strong ∷ European ∷ Arabic ∷ Terminator ∷ Joined ∷ Neutral ∷ []) (kind_place x) ≡ Some x
    found is_strong = refl
    found European = refl
    found Arabic = refl
    found Terminator = refl
    found Joined = refl
    found Neutral = refl

abbrev next_place : Next → ℕ
next_place next_EN = 0
next_place next_AN = 1
next_place next_other = 2

abbrev pub nexts : Finite Next
nexts = record { values = next_EN ∷ next_AN ∷ next_other ∷ []; place = next_place; found = found }
  where
    found : (x : Next) → slice_get (next_EN ∷ next_AN ∷ next_other ∷ []) (next_place x) ≡ Some x
    found next_EN = refl
    found next_AN = refl
    found next_other = refl

abbrev first_place : First → ℕ
first_place first_L = 0
first_place first_R = 1
first_place first_EN = 2

abbrev pub firsts : Finite First
firsts = record { values = first_L ∷ first_R ∷ first_EN ∷ []; place = first_place; found = found }
  where
    found : (x : First) → slice_get (first_L ∷ first_R ∷ first_EN ∷ []) (first_place x) ≡ Some x
    found first_L = refl
    found first_R = refl
    found first_EN = refl

-- the contexts, field by field
abbrev left : Strong → Side → Kind → Left
left s d k = record { strong = s; side = d; kind = k }

abbrev pub every_left : (Left → Bool) → Bool
every_left f = every strongs λ s. every sides λ d. every kinds λ k. f (left s d k)

pub at_left : (f : Left → Bool) → T (every_left f) → (l : Left) → T (f l)
at_left f t l =
    at kinds (λ k. f (left l.strong l.side k))
    (at sides (λ d. every kinds λ k. f (left l.strong d k))
    (at strongs (λ s. every sides λ d. every kinds λ k. f (left s d k)) t l.strong)
    l.side)
    l.kind

abbrev right : Next → Bool → First → Right
right n b c = record { next = n; leads = b; first = c }

abbrev pub every_right : (Right → Bool) → Bool
every_right f = every nexts λ n. every bools λ b. every firsts λ c. f (right n b c)

pub at_right : (f : Right → Bool) → T (every_right f) → (r : Right) → T (f r)
at_right f t r =
    at firsts (λ c. f (right r.next r.leads c))
    (at bools (λ b. every firsts λ c. f (right r.next b c))
    (at nexts (λ n. every bools λ b. every firsts λ c. f (right n b c)) t r.next)
    r.leads)
    r.first
