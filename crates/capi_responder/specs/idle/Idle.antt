-- A tick that has nothing to do but to keep its time, told from a state's bytes: every part of what changes is at rest, and its bytes are those that a tick
-- would write (`at_rest` in proofs/idle/Resting.antt). Assumes nothing: these are definitions.
use Rattle.std.specs.Prelude.{ℕ, zero, suc, ◌+◌, Bool, true, not, cond, ◌&&◌, List, leb, ltb, eqb, length}
use Rattle.wire.specs.octets.Octets.{byte_at}
use Rattle.own.specs.records.Setups.{valid_setup}
use Rattle.claims.specs.records.Own.{all, index_of}
use Rattle.claims.specs.records.Sets.{every_of}
use Rattle.claims.specs.Time.{last_time, last_kept}
use Rattle.responder.specs.Refusals.{small_buffer}
use Rattle.capi_responder.specs.codec.Numbers.{word64}
use Rattle.capi_responder.specs.codec.Layout as layout
use Rattle.capi_responder.specs.codec.Parts.{setup_at}

-- a due time that is still to come, and that a state may keep
abbrev pub to_come : ℕ → ℕ → Bool
to_come due time = ltb time due && leb due last_kept

-- a claim by its case and its number: one with a step to come, or one that is held or lost, whose number is 0
abbrev pub claim_rest : ℕ → ℕ → ℕ → Bool
claim_rest tag due time = cond (ltb tag 6) (to_come due time) (ltb tag 8 && eqb due 0)

unfoldable pub claim_rests : List ℕ → ℕ → ℕ → Bool
claim_rests b at time = claim_rest (byte_at b at) (word64 b (at + 1)) time

-- a reply by its flag and its number
abbrev pub reply_rest : ℕ → ℕ → ℕ → Bool
reply_rest flag due time = cond (eqb flag 0) (eqb due 0) (eqb flag 1 && to_come due time)

unfoldable pub reply_rests : List ℕ → ℕ → ℕ → Bool
reply_rests b at time = reply_rest (byte_at b at) (word64 b (at + 1)) time

-- a last multicast, or the last update, by its flag and its number
abbrev pub last_keeps : ℕ → ℕ → Bool
last_keeps flag last = cond (eqb flag 0) (eqb last 0) (eqb flag 1 && leb last last_kept)

unfoldable pub when_kept : List ℕ → ℕ → Bool
when_kept b at = last_keeps (byte_at b at) (word64 b (at + 1))

unfoldable pub multicasts_kept : List ℕ → Bool
multicasts_kept b = every_of (λ o. when_kept b (layout.multicast (index_of o))) all

-- so many numbers, one behind the other, are 0
unfoldable pub zeros_from : List ℕ → ℕ → ℕ → Bool
zeros_from b at zero = true
zeros_from b at (suc n) = eqb (word64 b at) 0 && zeros_from b (at + layout.number_size) n

-- No query is held, and all bytes of the four places are zeros. Twenty numbers are as many bytes and four more, the first of the draw, which are zeros in every
-- state that is not refused.
unfoldable pub none_held : List ℕ → Bool
none_held b = zeros_from b layout.holds 20

-- all that changes
unfoldable pub nothing_due : List ℕ → ℕ → Bool
nothing_due b time =
    claim_rests b layout.instance_claim time
    && (claim_rests b layout.host_claim time
    && (reply_rests b layout.reply time
    && (when_kept b layout.updated
    && (none_held b
    && (leb (word64 b layout.draw) 250
    && (leb (word64 b layout.last) time
    && multicasts_kept b))))))

unfoldable pub is_idle : List ℕ → ℕ → ℕ → Bool
is_idle b time room =
    leb time last_time
    && (not (small_buffer room)
    && (eqb (length b) layout.state_size
    && (nothing_due b time
    && valid_setup (setup_at b))))
