-- The rules for a set-up, test by test. Assumes nothing.
use mathlib.Core.Path.{◌≡◌, refl, sym, ap, ◌∙◌}
use mathlib.Core.List.{List, [], ◌∷◌}
use mathlib.Core.Bool.{Bool, true, false, not, cond, ◌&&◌, and-true}
use mathlib.Core.Logic.{◌⊎◌, inl, inr}
use Prim.Native.Nat.{ℕ, ◌+◌, ◌-◌, ◌<◌, ◌≤◌}
use native.Mathlib.Numerals.{add-one}
use native.Mathlib.Omega.{arith}
use borrow.Author.Tests.{le-leb, lt-leb, eq-eqb, ne_eqb}
use lib.ListN.{length, get_or, take, drop, drop_of_length-le}
use lib.Seq.{drop-cons, take_all}
use lib.Dec.{leb, eqb}
use Rattle.wire.specs.rdata.Rdata.{strings_fill}
use Rattle.wire.specs.expansion.Equal.{same_bytes}
use Rattle.own.specs.declared.records.Label.{Label}
use Rattle.own.specs.declared.records.Service.{Service}
use Rattle.own.specs.declared.records.Strings.{Strings}
use Rattle.own.specs.declared.records.Setup.{Setup}
use Rattle.own.specs.utf8.Utf8.{is_shown}
use Rattle.own.specs.records.Setups.{tcp, udp, held, label_fits, instance_fits, all_name_bytes, some_letter, hyphens_apart, service_rule, service_fits, protocol_fits, domain_fits, txt_fits, valid_setup}

-- a turn of the loops over the bytes
module _ (s : List ℕ) (i : ℕ) where
  pub hyphens_end : (v : Bool) → length s ≤ i → hyphens_apart true s ≡ hyphens_apart v (drop i s) → not v ≡ hyphens_apart true s
  unfolding hyphens_apart
  hyphens_end v h inv = sym (inv ∙ rw (drop_of_length-le s h))

  module _ (h : i < length s) where
    front : drop i s ≡ get_or s i 0 ∷ drop (i + 1) s
    front = drop-cons s i 0 h ∙ ap (λ (k : ℕ). get_or s i 0 ∷ drop k s) (sym (add-one i))

    module _ (v : Bool) (inv : hyphens_apart true s ≡ hyphens_apart v (drop i s)) where
      hyphens_turn : hyphens_apart true s ≡ cond (eqb (get_or s i 0) 45) (not v && hyphens_apart true (drop (i + 1) s)) (hyphens_apart false (drop (i + 1) s))
      unfolding hyphens_apart
      hyphens_turn = inv ∙ rw front

      pub hyphen_barred : get_or s i 0 ≡ 45 → v ≡ true → false ≡ hyphens_apart true s
      hyphen_barred e t = sym (hyphens_turn ∙ simp (eq-eqb _ _ e, t))

      pub hyphens_on : ((v ≡ true) × (get_or s i 0 ≡ 45 → ⊥)) ⊎ (v ≡ false) → hyphens_apart true s ≡ hyphens_apart (eqb (get_or s i 0) 45) (drop (i + 1) s)
      hyphens_on (inl x) = hyphens_turn ∙ simp (ne_eqb _ _ x.1)
      hyphens_on (inr e) = hyphens_turn ∙ simp e (go (eqb (get_or s i 0) 45))
        where
          rest : List ℕ
          rest = drop (i + 1) s

          go : (k : Bool) → cond k (hyphens_apart true rest) (hyphens_apart false rest) ≡ hyphens_apart k rest
          go true = refl
          go false = refl

-- the rule for a service label
pub rule_empty : (s : List ℕ) → length s ≡ 0 → false ≡ service_rule s
unfolding service_rule
rule_empty [] h = refl
rule_empty (b ∷ bs) h = absurd (omega arith)

-- its first byte and what follows it, as the code takes it
pub rule_rest : (s : List ℕ) → 0 < length s
    → service_rule s ≡ (eqb (get_or s 0 0) 95 && (all_name_bytes (take (length s - 1) (drop 1 s)) && (some_letter (take (length s - 1) (drop 1 s)) && hyphens_apart true (take (length s - 1) (drop 1 s)))))
unfolding service_rule
rule_rest [] h = absurd (omega arith)
rule_rest (b ∷ bs) h = simp (take_all (length (b ∷ bs) - 1) bs (omega arith))

-- bytes held in an array
module _ (least most len : ℕ) (bytes : List ℕ) where
  pub held-few : len < least → held least most len bytes ≡ false
  held-few h = simp (lt-leb _ _ h)

  pub held-many : least ≤ len → most < len → held least most len bytes ≡ false
  held-many h k = simp (le-leb _ _ h, lt-leb _ _ k)

  pub held-so : least ≤ len → len ≤ most → length bytes ≡ most → held least most len bytes ≡ true
  held-so h k e = simp (le-leb _ _ h, le-leb _ _ k, eq-eqb _ _ e)

pub label-empty : (l : Label) → l.len ≡ 0 → false ≡ label_fits l
unfolding label_fits
label-empty l h = sym (held-few 1 63 l.len l.bytes (omega arith))

pub label-most : (l : Label) → (l.len ≡ 0 → ⊥) → length l.bytes ≡ 63 → leb l.len 63 ≡ label_fits l
unfolding label_fits
label-most l h e = let g : 1 ≤ l.len = omega arith in sym (simp (le-leb _ _ g, eq-eqb _ _ e) (and-true (leb l.len 63)))

pub instance-few : (l : Label) → l.len ≡ 0 → false ≡ instance_fits l
unfolding instance_fits label_fits
instance-few l h = let g : l.len < 1 = omega arith in sym (simp (held-few 1 63 l.len l.bytes g))

pub instance-many : (l : Label) → (l.len ≡ 0 → ⊥) → 63 < l.len → false ≡ instance_fits l
unfolding instance_fits label_fits
instance-many l h k = let g : 1 ≤ l.len = omega arith in sym (simp (held-many 1 63 l.len l.bytes g k))

pub instance-so : (l : Label) → (l.len ≡ 0 → ⊥) → l.len ≤ 63 → length l.bytes ≡ 63 → (v : Bool) → v ≡ is_shown (take l.len l.bytes) → v ≡ instance_fits l
unfolding instance_fits label_fits
instance-so l h k e v is = let g : 1 ≤ l.len = omega arith in sym (simp (held-so 1 63 l.len l.bytes g k e) (sym is))

pub service-few : (l : Service) → l.len < 2 → false ≡ service_fits l
unfolding service_fits
service-few l h = sym (simp (held-few 2 16 l.len l.bytes h))

pub service-many : (l : Service) → 2 ≤ l.len → 16 < l.len → false ≡ service_fits l
unfolding service_fits
service-many l h k = sym (simp (held-many 2 16 l.len l.bytes h k))

pub service-so : (l : Service) → 2 ≤ l.len → l.len ≤ 16 → length l.bytes ≡ 16 → (v : Bool) → v ≡ service_rule (take l.len l.bytes) → v ≡ service_fits l
unfolding service_fits
service-so l h k e v is = sym (simp (held-so 2 16 l.len l.bytes h k e) (sym is))

pub txt-few : (l : Strings) → l.len ≡ 0 → false ≡ txt_fits l
unfolding txt_fits
txt-few l h = let g : l.len < 1 = omega arith in sym (simp (held-few 1 400 l.len l.bytes g))

pub txt-many : (l : Strings) → (l.len ≡ 0 → ⊥) → 400 < l.len → false ≡ txt_fits l
unfolding txt_fits
txt-many l h k = let g : 1 ≤ l.len = omega arith in sym (simp (held-many 1 400 l.len l.bytes g k))

pub txt-so : (l : Strings) → (l.len ≡ 0 → ⊥) → l.len ≤ 400 → length l.bytes ≡ 400 → (v : Bool) → v ≡ strings_fill 0 (take l.len l.bytes) → v ≡ txt_fits l
unfolding txt_fits
txt-so l h k e v is = let g : 1 ≤ l.len = omega arith in sym (simp (held-so 1 400 l.len l.bytes g k e) (sym is))

pub protocol-tcp : (p : List ℕ) (v : Bool) → v ≡ same_bytes p tcp → v ≡ true → true ≡ protocol_fits p
unfolding protocol_fits
protocol-tcp p v is t = sym (simp (sym is ∙ t))

pub protocol-udp : (p : List ℕ) (v : Bool) → v ≡ same_bytes p tcp → v ≡ false → (w : Bool) → w ≡ same_bytes p udp → w ≡ protocol_fits p
unfolding protocol_fits
protocol-udp p v is t w iw = sym (simp (sym is ∙ t) (sym iw))

-- the rules in turn
module _ (s : Setup) where
  abbrev sizes : Bool
  sizes = eqb (length s.a) 4 && eqb (length s.aaaa) 16

  module _ (v₁ : Bool) (e₁ : v₁ ≡ instance_fits s.instance) where
    pub not-instance : v₁ ≡ false → false ≡ valid_setup s
    unfolding valid_setup
    not-instance t = sym (simp (sym e₁ ∙ t))

    module _ (t₁ : v₁ ≡ true) (v₂ : Bool) (e₂ : v₂ ≡ service_fits s.service) where
      pub not-service : v₂ ≡ false → false ≡ valid_setup s
      unfolding valid_setup
      not-service t = sym (simp (sym e₁ ∙ t₁, sym e₂ ∙ t))

      module _ (t₂ : v₂ ≡ true) (v₃ : Bool) (e₃ : v₃ ≡ protocol_fits s.protocol) where
        pub not-protocol : v₃ ≡ false → false ≡ valid_setup s
        unfolding valid_setup
        not-protocol t = sym (simp (sym e₁ ∙ t₁, sym e₂ ∙ t₂, sym e₃ ∙ t))

        module _ (t₃ : v₃ ≡ true) (v₄ : Bool) (e₄ : v₄ ≡ label_fits s.host) where
          pub not-host : v₄ ≡ false → false ≡ valid_setup s
          unfolding valid_setup
          not-host t = sym (simp (sym e₁ ∙ t₁, sym e₂ ∙ t₂, sym e₃ ∙ t₃, sym e₄ ∙ t))

          module _ (t₄ : v₄ ≡ true) (v₅ : Bool) (e₅ : v₅ ≡ domain_fits s.domain) where
            pub not-domain : v₅ ≡ false → false ≡ valid_setup s
            unfolding valid_setup
            not-domain t = sym (simp (sym e₁ ∙ t₁, sym e₂ ∙ t₂, sym e₃ ∙ t₃, sym e₄ ∙ t₄, sym e₅ ∙ t))

            pub all-but_txt : v₅ ≡ true → (v : Bool) → v ≡ txt_fits s.txt → length s.a ≡ 4 → length s.aaaa ≡ 16 → v ≡ valid_setup s
            unfolding valid_setup
            all-but_txt t v e four sixteen =
                sym (simp (sym e₁ ∙ t₁, sym e₂ ∙ t₂, sym e₃ ∙ t₃, sym e₄ ∙ t₄, sym e₅ ∙ t, eq-eqb _ _ four, eq-eqb _ _ sixteen) (and-true (txt_fits s.txt) ∙ sym e))
