-- What callers use: where the value of a lookup lies, what it is, and the number of an answer. Assumes nothing.
use mathlib.Core.Path.{◌≡◌, refl, sym, ap, subst, ◌∙◌}
use mathlib.Core.List.{List, [], ◌∷◌}
use mathlib.Core.Option.{Option, none, some}
use mathlib.Core.Logic.{◌⊎◌, inl, inr, ⊎_elim}
use Prim.Native.Nat.{ℕ, suc, ◌+◌, ◌-◌, ◌<◌, ◌≤◌}
use native.Mathlib.Omega.{arith}
use lib.ListN.{length, take, drop, length-take, length-drop}
use Rattle.txt.specs.Txt.{Text, text, strings, key_of, value_of, first_with}
use Rattle.wire.specs.refusals.Numbers.{number_in, refused_by}
use Rattle.wire.specs.declared.refusals.Refusal.{Refusal}
use Rattle.wire.proofs.refusals.Tests.{number_by}
use Rattle.std.specs.Prelude.{Result, Ok, Err}
use Rattle.txt.specs.Lookup.{lookup_tests, refusal_of, valued, given_by, answer_of, in_txt, when_absent, unless_refused, lookup_of, number_of, part_of, shown_of, holder, bytes_of}
use Rattle.txt.specs.declared.Buffer.{Buffer}
use Rattle.txt.specs.declared.Buffer.TheVariants.{Received, Factory}
use Rattle.txt.specs.declared.Held.{Held}
use Rattle.txt.specs.declared.Answer.{Answer}
use Rattle.txt.specs.declared.Answer.TheVariants.{Refused, Absent, Present, Empty, Value}
use Rattle.txt.proofs.Pairs.{key_fits, no_value, value_part}
use Rattle.txt.proofs.Placed.{placed, rest_placed}

-- A value that a TXT gives: the first string that has the key has it, and it lies inside the TXT.
pub record ValueIn (b : Buffer) (key txt : List ℕ) (h : Held) : Type 0 where
  pub place : ℕ
  pub string : List ℕ
  pub bytes : List ℕ
  pub first : first_with key (strings txt) ≡ some (text place string)
  pub has : value_of string ≡ some bytes
  pub buffer : h.buffer ≡ b
  pub not-empty : 0 < h.len
  pub inside : h.at + h.len ≤ length txt
  pub shown : take h.len (drop h.at txt) ≡ bytes

-- a string that has a value has a "=" after its key
has-equals : (s v : List ℕ) → value_of s ≡ some v → (length (key_of s) < length s) × (drop (suc (length (key_of s))) s ≡ v)
has-equals s v e =
    let fits = key_fits s in
    let ne : length (key_of s) ≡ length s → ⊥ = λ q. let n = no_value s q in let z : ◌≡◌ {A = ℕ} 0 1 = cc in absurd (omega arith) in
    let lt : length (key_of s) < length s = omega arith in
    let part = value_part s lt in
    (lt, cc)

module _ (b : Buffer) (key txt : List ℕ) (h : Held) where
  by_value : (p : ℕ) (s : List ℕ) → first_with key (strings txt) ≡ some (text p s) → (x : Option (List ℕ)) → value_of s ≡ x → valued b (p + length (key_of s) + 1) x ≡ Value h → ValueIn b key txt h
  by_value p s m none e g = let z : ◌≡◌ {A = ℕ} 0 1 = cc in absurd (omega arith)
  by_value p s m (some []) e g = let z : ◌≡◌ {A = ℕ} 0 1 = cc in absurd (omega arith)
  by_value p s m (some (v ∷ vs)) e g =
      let same : ◌≡◌ {A = Held} (record { buffer = b; at = p + length (key_of s) + 1; len = length (v ∷ vs) }) h = cc in
      let at-is : p + length (key_of s) + 1 ≡ h.at = ap (λ (y : Held). y.at) same in
      let len_is : length (v ∷ vs) ≡ h.len = ap (λ (y : Held). y.len) same in
      let w = placed key txt p s m in
      let q = has-equals s (v ∷ vs) e in
      let l : length s - suc (length (key_of s)) ≡ length (v ∷ vs) = sym (length-drop (suc (length (key_of s))) s) ∙ ap length q.1 in
      let sum : p + suc (length (key_of s)) ≡ h.at = omega arith in
      record {
        place = p;
        string = s;
        bytes = v ∷ vs;
        first = m;
        has = e;
        buffer = sym (ap (λ (y : Held). y.buffer) same);
        not-empty = omega arith;
        inside = omega arith;
        shown = rw (← sum, ← len_is) (rest_placed txt p s (suc (length (key_of s))) (v ∷ vs) w q.0 q.1);
      }

  by-match : (m : Option Text) → first_with key (strings txt) ≡ m → answer_of b m ≡ Value h → ValueIn b key txt h
  unfolding given_by
  by-match none e g = let z : ◌≡◌ {A = ℕ} 0 1 = cc in absurd (omega arith)
  by-match (some (text p s)) e g = by_value p s e (value_of s) refl g

  pub gives : in_txt b key txt ≡ Value h → ValueIn b key txt h
  unfolding in_txt
  gives g = by-match (first_with key (strings txt)) refl g

-- A lookup that gives a value: the buffer that held it, and where it lies there.
unrefused : (t : Result (Unit {0}) Refusal) (a : Answer) (h : Held) → unless_refused t a ≡ Value h → a ≡ Value h
unrefused (Ok u) a h e = e
unrefused (Err refusal) a h e = let z : ◌≡◌ {A = ℕ} 0 1 = cc in absurd (omega arith)

either : (a other : Answer) (h : Held) → when_absent a other ≡ Value h → (a ≡ Value h) ⊎ (other ≡ Value h)
either (Refused n) other h e = let z : ◌≡◌ {A = ℕ} 0 1 = cc in absurd (omega arith)
either Absent other h e = inr e
either Present other h e = let z : ◌≡◌ {A = ℕ} 0 1 = cc in absurd (omega arith)
either Empty other h e = let z : ◌≡◌ {A = ℕ} 0 1 = cc in absurd (omega arith)
either (Value v) other h e = inl e

module _ (key received factory : List ℕ) (h : Held) (e : lookup_of key received factory ≡ Value h) where
  held : (in_txt Received key received ≡ Value h) ⊎ (in_txt Factory key factory ≡ Value h)
  unfolding lookup_of
  held = either (in_txt Received key received) (in_txt Factory key factory) h (unrefused (refused_by (lookup_tests key received factory)) _ h e)

  pub lookup_value : ValueIn h.buffer key (holder h.buffer received factory) h
  lookup_value = ⊎_elim (λ g. told (gives Received key received h g)) (λ g. told (gives Factory key factory h g)) held
    where
      told : {b : Buffer} → ValueIn b key (holder b received factory) h → ValueIn h.buffer key (holder h.buffer received factory) h
      told v = subst (λ (b : Buffer). ValueIn b key (holder b received factory) h) (sym v.buffer) v

  -- a value ends inside one of the two buffers
  pub in_one : (h.at + h.len ≤ length received) ⊎ (h.at + h.len ≤ length factory)
  in_one = ⊎_elim (λ g. inl (gives Received key received h g).inside) (λ g. inr (gives Factory key factory h g).inside) held

  pub in_received : h.buffer ≡ Received → h.at + h.len ≤ length received
  in_received r = subst (λ (b : Buffer). h.at + h.len ≤ length (holder b received factory)) r lookup_value.inside

  pub in_factory : h.buffer ≡ Factory → h.at + h.len ≤ length factory
  in_factory f = subst (λ (b : Buffer). h.at + h.len ≤ length (holder b received factory)) f lookup_value.inside

-- The part that a lookup shows lies inside its buffer, whatever the answer is, and has as many bytes as it says.
inside_of : (received factory : List ℕ) (a : Answer) → ((h : Held) → a ≡ Value h → h.at + h.len ≤ length (holder h.buffer received factory))
    → (part_of a).at + (part_of a).len ≤ length (holder (part_of a).buffer received factory)
inside_of received factory (Refused n) v = omega arith
inside_of received factory Absent v = omega arith
inside_of received factory Present v = omega arith
inside_of received factory Empty v = omega arith
inside_of received factory (Value h) v = v h refl

pub shown-inside : (key received factory : List ℕ)
    → (shown_of key received factory).at + (shown_of key received factory).len ≤ length (holder (shown_of key received factory).buffer received factory)
shown-inside key received factory = inside_of received factory (lookup_of key received factory) (λ h e. (lookup_value key received factory h e).inside)

pub shown-length : (key received factory : List ℕ) → length (bytes_of (shown_of key received factory) received factory) ≡ (shown_of key received factory).len
shown-length key received factory =
    let h = shown_of key received factory in
    let i = shown-inside key received factory in
    simp (length-take, length-drop) (omega arith)

-- The number of the answer is the refusal.
valued_number : (b : Buffer) (at : ℕ) (x : Option (List ℕ)) → number_of (valued b at x) ≡ 0
valued_number b at none = refl
valued_number b at (some []) = refl
valued_number b at (some (v ∷ vs)) = refl

answer_number_lem : (b : Buffer) (m : Option Text) → number_of (answer_of b m) ≡ 0
unfolding given_by
answer_number_lem b none = refl
answer_number_lem b (some (text p s)) = valued_number b (p + length (key_of s) + 1) (value_of s)

absent-number : (a other : Answer) → number_of a ≡ 0 → number_of other ≡ 0 → number_of (when_absent a other) ≡ 0
absent-number (Refused n) other p q = p
absent-number Absent other p q = q
absent-number Present other p q = p
absent-number Empty other p q = p
absent-number (Value v) other p q = p

refused_number : (t : Result (Unit {0}) Refusal) (a : Answer) → number_of a ≡ 0 → number_of (unless_refused t a) ≡ number_in t
refused_number (Ok u) a p = p
refused_number (Err refusal) a p = refl

pub number_is : (key received factory : List ℕ) → number_of (lookup_of key received factory) ≡ refusal_of key received factory
unfolding lookup_of refusal_of in_txt
number_is key received factory =
    let r = in_txt Received key received in
    let f = in_txt Factory key factory in
    refused_number (refused_by (lookup_tests key received factory)) (when_absent r f)
    (absent-number r f (answer_number_lem Received (first_with key (strings received))) (answer_number_lem Factory (first_with key (strings factory))))
    ∙ number_by (lookup_tests key received factory)

pub numbered : (key received factory : List ℕ) (r : Answer) → r ≡ lookup_of key received factory → (r ≡ lookup_of key received factory) × (number_of r ≡ refusal_of key received factory)
numbered key received factory r e = (e, ap number_of e ∙ number_is key received factory)
