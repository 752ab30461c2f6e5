-- What a caller that waits may rely on: "a tick with nothing due changes only the last time; the next due time is exact". Statements; proved in
-- proofs/Waiting.antt. Assumes nothing.
use Rattle.std.specs.Prelude.{ℕ, ◌≤◌, ◌<◌, ◌≡◌, true, false, List, []}
use Rattle.cache.specs.declared.entries.Entry.{Entry}
use Rattle.browser.specs.declared.Browser.{Browser}
use Rattle.browser.specs.declared.Answer.TheVariants.{Quiet}
use Rattle.browser.specs.Calls.{tick_refusal, tick_of, ticked_packet, is_due, resumed, next_due}

-- `idle-tick`: nothing is sent, and of the state the time of the last call alone is another
abbrev pub IdleTick : Type 0
IdleTick = (b : Browser) (now : ℕ) (es : List Entry) (store : List ℕ) (room : ℕ) → tick_refusal b now es store room ≡ 0 → is_due now store b es ≡ false
    → (tick_of b now es store room ≡ record { answer = Quiet; more = false; browser = resumed b now b.owed }) × (ticked_packet b now es store room ≡ [])

pub record Next (now : ℕ) (store : List ℕ) (b : Browser) (es : List Entry) : Type 0 where
  pub ahead : now ≤ next_due now store b es
  -- then a step is due
  pub arrives : is_due (next_due now store b es) store b es ≡ true
  -- and none before it
  pub before : (time : ℕ) → now ≤ time → time < next_due now store b es → is_due time store b es ≡ false

-- `next-exact`: with the table as it is
abbrev pub NextExact : Type 0
NextExact = (now : ℕ) (store : List ℕ) (b : Browser) (es : List Entry) → Next now store b es
