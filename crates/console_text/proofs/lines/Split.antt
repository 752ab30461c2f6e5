-- The fields of a line are its parts between spaces. Assumes nothing.
use Rattle.std.proofs.Common.{◌≡◌, ◌∙◌, ℕ, List, [], ◌∷◌, Bool, cond, Option, Some, None, get_or, refl, sym, ap, eqb}
use Rattle.std.specs.Borrow.{Bor}
use Rattle.std.specs.List.{slice_split, onto_first, slice_get}
use Rattle.std.specs.Option.{unwrap_or, option_map}
use Rattle.std.proofs.lemmas.Option.{unwrap_or-slice_get}
use Rattle.console_text.specs.lines.Fields.{in_front, fields_of}

onto : (b : ℕ) (fs : List (List ℕ)) → in_front b fs ≡ onto_first b fs
onto b [] = refl
onto b (f ∷ fs) = refl

pub fields_split : (line : List ℕ) → fields_of line ≡ slice_split (λ b. eqb b 32) line
unfolding fields_of
fields_split [] = refl
fields_split (b ∷ bs) = onto_fields (eqb b 32) (fields_split bs)
  where
    onto_fields : (t : Bool) {fs gs : List (List ℕ)} → fs ≡ gs → cond t ([] ∷ fs) (in_front b fs) ≡ cond t ([] ∷ gs) (onto_first b gs)
    onto_fields t {fs} {gs} e = ap (λ (x : List (List ℕ)). cond t ([] ∷ x) (in_front b x)) e ∙ ap (cond t ([] ∷ gs)) (onto b gs)

read_or : (o : Option (Bor (List ℕ))) (other : Bor (List ℕ)) → (unwrap_or o other).now ≡ unwrap_or (option_map (λ x. x.now) o) other.now
read_or None other = refl
read_or (Some x) other = refl

-- a part that is found is the field, and no bytes stand for one that is not
pub field_found : (line : List ℕ) (index : ℕ) (o : Option (Bor (List ℕ))) (other : Bor (List ℕ)) → option_map (λ x. x.now) o ≡ slice_get (slice_split (λ b. eqb b 32) line) index
    → other.now ≡ [] → (unwrap_or o other).now ≡ get_or (fields_of line) index []
field_found line index o other e n =
    read_or o other ∙ ap (λ (x : Option (List ℕ)). unwrap_or x other.now) e ∙ unwrap_or-slice_get (slice_split (λ b. eqb b 32) line) index other.now
    ∙ ap (get_or (slice_split (λ b. eqb b 32) line) index) n ∙ ap (λ (x : List (List ℕ)). get_or x index []) (sym (fields_split line))
