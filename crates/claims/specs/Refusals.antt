-- The refusals that are tests on times and draws (specification, 'Refusal numbers' 1, 2, and of 7 the kept start draw). Assumes nothing: these are
-- definitions.
use Rattle.std.specs.Prelude.{ℕ, Bool, not, ◌&&◌, ◌||◌, leb, ltb}
use Rattle.claims.specs.Time.{last_time, last_kept, at_most, sent_of}
use Rattle.claims.specs.Claims.{due_of}
use Rattle.claims.specs.records.Own.{all}
use Rattle.claims.specs.records.Sets.{every_of}
use Rattle.claims.specs.holds.Holds.{slots}
use Rattle.claims.specs.declared.holds.Hold.{Hold}
use Rattle.claims.specs.declared.holds.Holds.{Holds}
use Rattle.claims.specs.declared.ClaimState.{ClaimState}
use Rattle.claims.specs.declared.Multicasts.{Multicasts}
use Rattle.claims.specs.declared.Progress.{Progress}

abbrev pub claim_kept : ℕ → ClaimState → Bool
claim_kept most c = at_most most (due_of c)

unfoldable pub multicasts_kept : ℕ → Multicasts → Bool
multicasts_kept most sent = every_of (λ o. at_most most (sent_of o sent)) all

-- a hold's due time is a time kept in the state
abbrev pub hold_kept : ℕ → Hold → Bool
hold_kept most h = at_most most h.due

unfoldable pub holds_kept : ℕ → Holds → Bool
holds_kept most holds = every_of (hold_kept most) (slots holds)

-- every time that is kept is at most `most`
unfoldable pub kept : ℕ → Progress → Bool
kept most progress =
    claim_kept most progress.instance
    && (claim_kept most progress.host
    && (multicasts_kept most progress.sent && (at_most most progress.reply
    && (holds_kept most progress.holds && (at_most most progress.updated && leb progress.last most)))))

-- 1, of a start: "time above 2^62"
abbrev pub late_start : ℕ → Bool
late_start now = ltb last_time now

-- 1, of a packet received and of a tick: "time above 2^62, or before the state's last time, .. or a time kept in the state above 2^62 + 2,000"
unfoldable pub wrong_time : Progress → ℕ → Bool
wrong_time progress now = late_start now || (ltb now progress.last || not (kept last_kept progress))

-- 2, of a start: "draw outside 0..250"; and of 7: "a kept start draw is above 250"
abbrev pub wrong_start_draw : ℕ → Bool
wrong_start_draw draw = ltb 250 draw

-- 2, of a packet received: "draw outside .. 20..120"
abbrev pub wrong_reply_draw : ℕ → Bool
wrong_reply_draw draw = ltb draw 20 || ltb 120 draw

-- 2, of a packet received: "for 400 to 500 ms (a new draw, refusal 2 outside)"
abbrev pub wrong_hold_draw : ℕ → Bool
wrong_hold_draw hold = ltb hold 400 || ltb 500 hold

-- "both draws are tested on every call"
abbrev pub wrong_draws : ℕ → ℕ → Bool
wrong_draws draw hold = wrong_reply_draw draw || wrong_hold_draw hold
