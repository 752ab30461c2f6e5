-- The steps of the calls, in the code's terms: from what a pass over the table gives. What they come to is in Calls (proofs/Ticking.antt,
-- proofs/Refusing.antt). Assumes nothing: these are definitions.
use Rattle.std.specs.Prelude.{ℕ, ◌≡◌, Bool, true, false, cond, not, ◌||◌, List, [], ◌∷◌, ltb, leb, eqb, length, Option, Some, None}
use Rattle.wire.specs.refusals.Numbers.{first_refusal}
use Rattle.wire.specs.declared.refusals.Refusal.{Refusal}
use Rattle.wire.specs.declared.refusals.Refusal.TheVariants.{Buffer, Setup, Table, Time}
use Rattle.writer.specs.own_packets.Own.{small_buffer, laid_over}
use Rattle.cache.specs.entries.Cache.{is_store_of}
use Rattle.browser.specs.declared.Browser.{Browser}
use Rattle.browser.specs.declared.Answer.TheVariants.{Refused, Quiet, Sent}
use Rattle.browser.specs.declared.Ticked.{Ticked}
use Rattle.browser.specs.declared.known_answers.Plan.{Plan}
use Rattle.browser.specs.query.Drafts.{draft_packet, draft_stop}
use Rattle.browser.specs.Calls.{wrong_time, wrong_browser, is_owed, resumed, asked}

-- the tests, from the refusal of the entries of a table of n, and from the bytes of its store; and the numbers of their refusals
unfoldable pub tick_tests_with : ℕ → ℕ → ℕ → Browser → ℕ → ℕ → List (Refusal × Bool)
tick_tests_with entries n bytes b now room =
    (Time, wrong_time b now || eqb entries 1) ∷ ((Buffer, small_buffer room) ∷
    ((Table, not (eqb entries 0) || not (is_store_of n bytes)) ∷ ((Setup, wrong_browser b) ∷ [])))

unfoldable pub look_tests_with : ℕ → ℕ → ℕ → Browser → ℕ → List (Refusal × Bool)
look_tests_with entries n bytes b now = tick_tests_with entries n bytes b now 1452

unfoldable pub tick_refusal_with : ℕ → ℕ → ℕ → Browser → ℕ → ℕ → ℕ
tick_refusal_with entries n bytes b now room = first_refusal (tick_tests_with entries n bytes b now room)

unfoldable pub look_refusal_with : ℕ → ℕ → ℕ → Browser → ℕ → ℕ
look_refusal_with entries n bytes b now = tick_refusal_with entries n bytes b now 1452

-- a slot that no table has
abbrev pub no_slot : ℕ
no_slot = 18446744073709551615

abbrev pub or_no_slot : Option ℕ → ℕ
or_no_slot (Some i) = i
or_no_slot None = no_slot

-- from which slot on what is owed, and what a query lists, are gathered
abbrev pub owed_start : Browser → ℕ
owed_start b = or_no_slot b.owed

unfoldable pub asked_start : ℕ → ℕ → ℕ → ℕ
asked_start owed next now = cond (ltb 0 owed) no_slot (cond (ltb now next) no_slot 0)

abbrev pub refused_tick : Refusal → Browser → Ticked
refused_tick refusal b = record { answer = Refused refusal; more = false; browser = b }

-- a tick that sends a packet of known answers, with no question or with one
abbrev pub sent_tick : List ℕ → Bool → Browser → Ticked
sent_tick packet more b = record { answer = Sent (length packet); more = more; browser = b }

-- what is sent, and the answer
unfoldable pub ended_packet : Browser → List ℕ → ℕ → ℕ → Plan → Plan → List ℕ
ended_packet b store now next owed known =
    cond (ltb 0 owed.n) (draft_packet false b store owed) (cond (ltb now next) [] (draft_packet true b store known))

unfoldable pub ended_tick : Browser → List ℕ → ℕ → ℕ → Plan → Plan → Ticked
ended_tick b store now next owed known =
    cond (ltb 0 owed.n)
    (sent_tick (draft_packet false b store owed) (is_owed (draft_stop false b store owed) || leb next now) (resumed b now (draft_stop false b store owed)))
    (cond (ltb now next)
    (record { answer = Quiet; more = false; browser = resumed b now None })
    (sent_tick (draft_packet true b store known) (is_owed (draft_stop true b store known)) (asked b now (draft_stop true b store known))))

pub record Ends (b : Browser) (now : ℕ) (store : List ℕ) (next : ℕ) (owed known : Plan) (out : List ℕ) (r : Ticked) (out' : List ℕ) : Type 0 where
  pub answers : r ≡ ended_tick b store now next owed known
  pub writes : out' ≡ laid_over (ended_packet b store now next owed known) out

abbrev pub due_with : Browser → ℕ → ℕ → ℕ
due_with b now next = cond (is_owed b.owed) now next
