-- A tick with nothing due changes only the last time, and the next due time is exact. Assumes nothing.
use Rattle.std.proofs.Common.{None, Option, Some}
use Rattle.std.specs.Prelude.{Result, Ok}
use mathlib.Core.Path.{◌≡◌, refl, sym, ap, ap₂, subst, ◌∙◌}
use mathlib.Core.Bool.{Bool, true, false, cond, ◌||◌}
use mathlib.Core.List.{List, []}
use Prim.Native.Nat.{ℕ, ◌≤◌, ◌<◌}
use native.Mathlib.Omega.{arith}
use lib.Dec.{eqb}
use mathlib.Mathlib.Data.Bool.Basic.{or-eq-false-eq-eq-false-and-eq-false as neither}
use Rattle.wire.specs.refusals.Numbers.{refused_by}
use Rattle.wire.specs.declared.refusals.Refusal.{Refusal}
use Rattle.wire.proofs.refusals.Tests.{none_by}
use Rattle.cache.specs.declared.entries.Entry.{Entry}
use Rattle.browser.specs.declared.Browser.{Browser}
use Rattle.browser.specs.declared.Answer.TheVariants.{Quiet}
use Rattle.browser.specs.known_answers.Known.{known_from, known_owed}
use Rattle.browser.specs.query.Query.{asking, packet_for, stop_for}
use Rattle.browser.specs.refresh.Refresh.{query_due, next_query}
use Rattle.browser.specs.Calls.{Turn, turn_with, turn_of, tick_tests, tick_refusal, ticked_packet, tick_of, answer_for, is_owed, is_due, resumed, asked, next_due}
use Rattle.browser.specs.Waiting.{IdleTick, Next, NextExact}
use Rattle.browser.proofs.refresh.Due.{resumed-due}
use Rattle.browser.proofs.refresh.Next.{query-then, query-by}

not-owed : (owed : Option ℕ) → is_owed owed ≡ false → owed ≡ None
not-owed (Some i) h = let z : ◌≡◌ {A = ℕ} 0 1 = cc in absurd (omega arith)
not-owed None h = refl

abbrev quiet : Browser → ℕ → Turn
quiet b now = record { packet = []; browser = resumed b now None }

idle_turn : (now : ℕ) (store : List ℕ) (b : Browser) (es : List Entry) → b.owed ≡ None → query_due now store b es ≡ false → turn_of now store b es
    ≡ quiet b now
unfolding turn_of
idle_turn now store b es o q =
    ap (λ (owed : Option ℕ). turn_with now store b es (known_owed now store b es owed)) o
    ∙ ap (λ (c : Bool). cond {A = Turn} c
    (record {
      packet = packet_for now store es (asking b) (known_from now store b es 0);
      browser = asked b now
          (stop_for now store es (asking b) (known_from now store b es 0));
    })
    (quiet b now)) q

more : (now : ℕ) (store : List ℕ) (b : Browser) (es : List Entry) → query_due now store (resumed b now None) es ≡ false
    → (is_owed (resumed b now None).owed || query_due now store (resumed b now None) es) ≡ false
unfolding resumed
more now store b es h = h

taken : (b : Browser) (now : ℕ) (es : List Entry) (store : List ℕ) (room : ℕ) → tick_refusal b now es store room ≡ 0
    → refused_by (tick_tests b now es store room) ≡ Ok tt
unfolding tick_refusal
taken b now es store room ok = none_by (tick_tests b now es store room) ok

pub idle_tick : IdleTick
unfolding tick_of ticked_packet is_due
idle_tick b now es store room ok idle =
    let p = (neither (is_owed b.owed) (query_due now store b es)).0 idle in
    let o : b.owed ≡ None = not-owed b.owed p.0 in
    let t : turn_of now store b es ≡ quiet b now = idle_turn now store b es o p.1 in
    let still : query_due now store (resumed b now None) es ≡ false = resumed-due now store b None es ∙ p.1 in (
      ap (λ (t : Result (Unit {0}) Refusal). record {
        answer = answer_for t (cond (eqb (tick_refusal b now es store room) 0) (turn_of now store b es).packet []);
        more = cond (eqb (tick_refusal b now es store room) 0) (is_due now store (turn_of now store b es).browser es) false;
        browser = cond (eqb (tick_refusal b now es store room) 0) (turn_of now store b es).browser b;
      }) (taken b now es store room ok)
          ∙ ap₂ (λ (n : ℕ) (r : Turn). record {
            answer = answer_for (Ok tt) (cond (eqb n 0) r.packet []);
            more = cond (eqb n 0) (is_owed r.browser.owed || query_due now store r.browser es) false;
            browser = cond (eqb n 0) r.browser b;
          }) ok t ∙ ap₂ (λ (m : Bool) (d : Browser). record { answer = Quiet; more = m; browser = d }) (more now store b es still) (ap (resumed b now) (sym o)),
      ap₂ (λ (n : ℕ) (r : Turn). cond (eqb n 0) r.packet []) ok t,
    )

pub next_exact : NextExact
unfolding next_due is_due
next_exact now store b es = go (is_owed b.owed) refl
  where
    go : (c : Bool) → is_owed b.owed ≡ c → Next now store b es
    go true o = record {
      ahead = subst (λ (c : Bool). now ≤ cond c now (next_query now store b es)) (sym o) (omega arith);
      arrives = ap (λ (c : Bool). c || query_due (cond (is_owed b.owed) now (next_query now store b es)) store b es) o;
      before = λ time l h. absurd (let k : time < now = subst (λ (c : Bool). time < cond c now (next_query now store b es)) o h in omega arith);
    }
    go false o =
        let q = query-then store b now es in record {
          ahead = subst (λ (c : Bool). now ≤ cond c now (next_query now store b es)) (sym o) q.1;
          arrives = ap₂ (λ (c : Bool) (t : ℕ). c || query_due t store b es) o (ap (λ (c : Bool). cond c now (next_query now store b es)) o) ∙ q.0;
          before = λ time l h. ap (λ (c : Bool). c || query_due time store b es) o
              ∙ none time l (subst (λ (c : Bool). time < cond c now (next_query now store b es)) o h);
        }
      where
        none : (time : ℕ) → now ≤ time → time < next_query now store b es → query_due time store b es ≡ false
        none time l h = split (query_due time store b es) refl
          where
            split : (c : Bool) → query_due time store b es ≡ c → c ≡ false
            split true e = let k = query-by store b now es time l e in absurd (omega arith)
            split false e = refl
