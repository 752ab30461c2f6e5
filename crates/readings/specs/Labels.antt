-- Instance labels at every bound of RFC 3629's table, and what a start and a state with one are refused as: evaluated over the definitions that the contracts
-- of `own` and `responder` cite. Assumes nothing.
use Rattle.std.specs.Prelude.{ℕ, ◌-◌, ◌≡◌, refl, Bool, true, false, ◌&&◌, ◌||◌, List, [], ◌∷◌, ◌++◌, length, replicate, None}
use Rattle.wire.specs.rdata.Rdata.{strings_fill}
use Rattle.wire.specs.expansion.Equal.{same_bytes}
use Rattle.wire.specs.message.Layout.{list_from, and_then, message_at}
use Rattle.own.specs.utf8.Utf8.{within, starts, following, may_stand, behind, shown_from, is_shown}
use Rattle.own.specs.records.Setups.{label_fits, instance_fits, is_letter, is_name_byte, all_name_bytes, some_letter, hyphens_apart, service_rule, service_fits, protocol_fits, domain_fits, txt_fits, valid_setup}
use Rattle.own.specs.declared.records.Setup.{Setup}
use Rattle.claims.specs.Refusals.{multicasts_kept, holds_kept, kept, wrong_time}
use Rattle.claims.specs.records.Sets.{every_of}
use Rattle.claims.specs.declared.ClaimState.TheVariants.{Held}
use Rattle.responder.specs.declared.State.{State}
use Rattle.responder.specs.Refusals.{wrong_state, start_refusal, receive_refusal, tick_refusal}
use Rattle.readings.specs.Examples.{example}
use Rattle.readings.specs.States.{lived, bare, bare_response, tick_at, from}

-- one character, of each form at each bound
abbrev pub shown : List (List ℕ)
shown =
    (0x20 ∷ [])
    ∷ (0x7E ∷ [])
    ∷ (0xC2 ∷ 0x80 ∷ [])
    ∷ (0xC2 ∷ 0xBF ∷ [])
    ∷ (0xDF ∷ 0xBF ∷ [])
    ∷ (0xE0 ∷ 0xA0 ∷ 0x80 ∷ [])
    ∷ (0xE0 ∷ 0xBF ∷ 0xBF ∷ [])
    ∷ (0xE1 ∷ 0x80 ∷ 0x80 ∷ [])
    ∷ (0xEC ∷ 0xBF ∷ 0xBF ∷ [])
    ∷ (0xED ∷ 0x80 ∷ 0x80 ∷ [])
    ∷ (0xED ∷ 0x9F ∷ 0xBF ∷ [])
    ∷ (0xEE ∷ 0x80 ∷ 0x80 ∷ [])
    ∷ (0xEF ∷ 0xBB ∷ 0xBF ∷ [])
    ∷ (0xEF ∷ 0xBF ∷ 0xBF ∷ [])
    ∷ (0xF0 ∷ 0x90 ∷ 0x80 ∷ 0x80 ∷ [])
    ∷ (0xF1 ∷ 0x80 ∷ 0x80 ∷ 0x80 ∷ [])
    ∷ (0xF3 ∷ 0xBF ∷ 0xBF ∷ 0xBF ∷ [])
    ∷ (0xF4 ∷ 0x80 ∷ 0x80 ∷ 0x80 ∷ [])
    ∷ (0xF4 ∷ 0x8F ∷ 0xBF ∷ 0xBF ∷ [])
    ∷ []

-- no character that a screen can show: control bytes; continuation bytes alone; overlong forms; surrogates; past U+10FFFF; bytes that UTF-8 never has; and a
-- byte past the bounds in each place of each form
abbrev pub unshown : List (List ℕ)
unshown =
    (0x00 ∷ [])
    ∷ (0x0A ∷ [])
    ∷ (0x1F ∷ [])
    ∷ (0x7F ∷ [])
    ∷ (0x80 ∷ [])
    ∷ (0xBF ∷ [])
    ∷ (0xC0 ∷ 0xAF ∷ [])
    ∷ (0xC1 ∷ 0xBF ∷ [])
    ∷ (0xC2 ∷ 0x7F ∷ [])
    ∷ (0xDF ∷ 0xC0 ∷ [])
    ∷ (0xE0 ∷ 0x9F ∷ 0xBF ∷ [])
    ∷ (0xE1 ∷ 0x7F ∷ 0x80 ∷ [])
    ∷ (0xEC ∷ 0xC0 ∷ 0x80 ∷ [])
    ∷ (0xED ∷ 0xA0 ∷ 0x80 ∷ [])
    ∷ (0xED ∷ 0xBF ∷ 0xBF ∷ [])
    ∷ (0xEE ∷ 0x80 ∷ 0x7F ∷ [])
    ∷ (0xEF ∷ 0xBF ∷ 0xC0 ∷ [])
    ∷ (0xF0 ∷ 0x8F ∷ 0xBF ∷ 0xBF ∷ [])
    ∷ (0xF1 ∷ 0x80 ∷ 0x7F ∷ 0x80 ∷ [])
    ∷ (0xF3 ∷ 0xBF ∷ 0xBF ∷ 0xC0 ∷ [])
    ∷ (0xF4 ∷ 0x90 ∷ 0x80 ∷ 0x80 ∷ [])
    ∷ (0xF5 ∷ 0x80 ∷ 0x80 ∷ 0x80 ∷ [])
    ∷ (0xF8 ∷ 0x88 ∷ 0x80 ∷ 0x80 ∷ 0x80 ∷ [])
    ∷ (0xFE ∷ [])
    ∷ (0xFF ∷ [])
    ∷ []

-- each form cut short
abbrev pub cut : List (List ℕ)
cut = (0xC2 ∷ []) ∷ (0xE2 ∷ []) ∷ (0xE2 ∷ 0x82 ∷ []) ∷ (0xF0 ∷ []) ∷ (0xF0 ∷ 0x9D ∷ []) ∷ (0xF0 ∷ 0x9D ∷ 0x84 ∷ []) ∷ []

-- whether all of some labels, or any of them, can be shown, between others
unfoldable pub all_shown : List ℕ → List ℕ → List (List ℕ) → Bool
all_shown before after [] = true
all_shown before after (l ∷ ls) = is_shown (before ++ (l ++ after)) && all_shown before after ls

unfoldable pub any_shown : List ℕ → List ℕ → List (List ℕ) → Bool
any_shown before after [] = false
any_shown before after (l ∷ ls) = is_shown (before ++ (l ++ after)) || any_shown before after ls

-- the letter a
abbrev pub a : List ℕ
a = 0x61 ∷ []

-- the specification's example with another instance label
abbrev pub called : List ℕ → Setup
called l = record {
  instance = record { bytes = l ++ replicate (63 - length l) 0; len = length l };
  service = example.service;
  protocol = example.protocol;
  host = example.host;
  domain = example.domain;
  port = example.port;
  txt = example.txt;
  a = example.a;
  hasaaaa = example.hasaaaa;
  aaaa = example.aaaa;
}

abbrev pub holding : List ℕ → State
holding l = record { setup = called l; progress = lived Held None None 0 0 }

-- a label with a line feed
abbrev pub feed : List ℕ
feed = 0x61 ∷ 0x0A ∷ 0x62 ∷ []

abbrev pub Labels : Type 0
Labels =
    -- alone, and between letters
    (all_shown [] [] shown ≡ true)
    × (all_shown a a shown ≡ true)
    × (any_shown [] [] unshown ≡ false)
    × (any_shown a a unshown ≡ false)
    -- a character cut short by the label's end, and by a letter
    × (any_shown [] [] cut ≡ false)
    × (any_shown a a cut ≡ false)
    -- 63 bytes that end in a whole form of four bytes, and 63 that end in one cut short
    × (is_shown (replicate 59 0x61 ++ (0xF0 ∷ 0x9D ∷ 0x84 ∷ 0x9E ∷ [])) ≡ true)
    × (is_shown (replicate 60 0x61 ++ (0xF0 ∷ 0x9D ∷ 0x84 ∷ [])) ≡ false)
    -- refusal 7, after 1, 2, 3, 4 and 5
    × (start_refusal (called a) 0 0 ≡ 0)
    × (start_refusal (called []) 0 0 ≡ 7)
    × (start_refusal (called feed) 0 0 ≡ 7)
    × (start_refusal (called feed) 0 251 ≡ 2)
    × (start_refusal (called feed) 4611686018427387905 251 ≡ 1)
    × (tick_refusal (holding a) (tick_at 0 1452) ≡ 0)
    × (tick_refusal (holding feed) (tick_at 0 1452) ≡ 7)
    × (tick_refusal (holding feed) (tick_at 0 1451) ≡ 3)
    × (receive_refusal (holding a) (from 5353 20 bare 1452) ≡ 0)
    × (receive_refusal (holding feed) (from 5353 20 bare 1452) ≡ 7)
    × (receive_refusal (holding feed) (from 5354 20 bare_response 1452) ≡ 5)
    × (receive_refusal (holding feed) (from 5353 20 [] 1452) ≡ 4)

pub labels : Labels
unfolding example all_shown any_shown within starts following may_stand behind shown_from is_shown tick_refusal receive_refusal start_refusal wrong_state wrong_time kept multicasts_kept holds_kept valid_setup label_fits instance_fits is_letter is_name_byte all_name_bytes some_letter hyphens_apart service_rule service_fits protocol_fits domain_fits txt_fits strings_fill same_bytes message_at and_then list_from every_of
labels = (refl, refl, refl, refl, refl, refl, refl, refl, refl, refl, refl, refl, refl, refl, refl, refl, refl, refl, refl, refl)
