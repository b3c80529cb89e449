-- The command word picks what is read.
use Rattle.std.proofs.Common.{◌≡◌, ℕ, Bool, cond, List, ◌∷◌, take, Err, codes, Option, Result, sym, ap, ◌∙◌}
use Rattle.std.specs.Str.{bytes_eq}
use Rattle.pages.specs.Lines.{first_at, behind, fields_left}
use Rattle.pages.specs.Calls.{put_of, take_of, find_of, call_of, call_in}
use Rattle.pages.specs.declared.call.Call.{Call}
use Rattle.pages.specs.declared.call.Refusal.{Refusal}
use Rattle.pages.specs.declared.call.Refusal.TheVariants.{Command}
use Rattle.pages.proofs.Pieces.{fields_cut}

-- by whether the word is put, take and find
abbrev pub picked : Bool → Bool → Bool → List (List ℕ) → Result Call Refusal
picked p t f fs = cond p (put_of fs) (cond t (take_of fs) (cond f (find_of fs) (Err Command)))

-- the word before the first tab, and what is left behind it
pub picks : (bs w : List ℕ) (rest : Option (List ℕ)) (p t f : Bool) → w ≡ take (first_at 9 bs) bs → rest ≡ behind 9 bs → p ≡ bytes_eq w (codes "put") → t ≡ bytes_eq w (codes "take") → f ≡ bytes_eq w (codes "find") → picked p t f (fields_left rest) ≡ call_in bs
picks bs w rest p t f e r ep et ef =
    (λ i. picked (ep i) (et i) (ef i) (fields_left (r i)))
    ∙ ap (λ v. call_of (v ∷ fields_left (behind 9 bs))) e
    ∙ ap call_of (sym (fields_cut bs))
