-- What a tick comes to: from the passes over the table and what was written to the answer, the state and the bytes. Assumes nothing.
use Rattle.std.proofs.Common.{None, Option, Some}
use Rattle.std.specs.Prelude.{Result, Ok, Err}
use mathlib.Core.Path.{◌≡◌, refl, sym, ap, ap₂, subst, ◌∙◌}
use mathlib.Core.Bool.{Bool, true, false, cond, ◌||◌}
use mathlib.Core.List.{List, [], ◌∷◌}
use Prim.Native.Nat.{ℕ, ◌≤◌, ◌<◌}
use native.Mathlib.Omega.{arith}
use lib.ListN.{length, take, drop, drop_of_length-le}
use lib.Dec.{ltb, leb, eqb}
use borrow.Author.Tests.{lt-ltb, le-ltb, ltb-true, ltb-false, le-leb, lt-leb, ne_eqb}
use Rattle.wire.specs.refusals.Numbers.{number_of, number_in, refused_by}
use Rattle.wire.specs.declared.refusals.Refusal.{Refusal}
use Rattle.wire.proofs.refusals.Tests.{numbers_from-1, number_by, none_by}
use Rattle.cache.specs.declared.entries.Entry.{Entry}
use Rattle.cache.specs.entries.Cache.{entries_refusal}
use Rattle.writer.specs.own_packets.Own.{laid_over}
use Rattle.browser.specs.declared.Browser.{Browser}
use Rattle.browser.specs.declared.Ticked.{Ticked}
use Rattle.browser.specs.declared.Answer.TheVariants.{Quiet, Sent}
use Rattle.browser.specs.declared.known_answers.Plan.{Plan}
use Rattle.browser.specs.known_answers.Known.{known_in, known_from, known_owed}
use Rattle.browser.specs.known_answers.Plans.{empty_plan, plan_from}
use Rattle.browser.specs.refresh.Refresh.{query_due, next_query}
use Rattle.browser.specs.query.Query.{asking, packet_for, stop_for}
use Rattle.browser.specs.query.Drafts.{draft_packet, draft_stop}
use Rattle.browser.specs.Calls.{answer_with, answer_for, is_owed, is_due, resumed, asked, Turn, turn_with, turn_of, tick_tests, tick_refusal, ticked_packet, tick_of, Ticks}
use Rattle.browser.specs.Steps.{tick_tests_with, tick_refusal_with, no_slot, or_no_slot, refused_tick, sent_tick, owed_start, asked_start, ended_tick, ended_packet}
use Rattle.browser.proofs.Refusing.{Passed, tick-result, tick-number, tick-passed}
use Rattle.browser.proofs.refresh.Due.{due-is, resumed-due, asked-due}
use Rattle.browser.proofs.query.Drafting.{draft_packet_lem, draft_stop_lem, plan_some, packet_some}

module _ (b : Browser) (now : ℕ) (es : List Entry) (store out : List ℕ) where
  abbrev number : ℕ
  number = tick_refusal_with (entries_refusal now es) (length es) (length store) b now (length out)

  abbrev owed : Plan
  owed = plan_from now store b (owed_start b) (drop (owed_start b) es) empty_plan

  abbrev next : ℕ
  next = next_query now store b es

  abbrev start : ℕ
  start = asked_start owed.n next now

  abbrev known : Plan
  known = plan_from now store b start (drop start es) empty_plan

  -- ---- refused

  pub tick-refused : {u : Result (Unit {0}) Refusal} → u ≡ refused_by (tick_tests_with (entries_refusal now es) (length es) (length store) b now (length out))
      → {refusal : Refusal} → u ≡ Err refusal → Ticks b now es store out (refused_tick refusal b) out
  unfolding tick_of ticked_packet tick_refusal
  tick-refused is {refusal = refusal} e =
      let tested : refused_by (tick_tests b now es store (length out)) ≡ Err refusal = sym (tick-result b now es store (length out)) ∙ sym is ∙ e in
      let n : tick_refusal b now es store (length out) ≡ number_of refusal = sym (number_by (tick_tests b now es store (length out))) ∙ ap number_in tested in
      let no_zero : eqb (tick_refusal b now es store (length out)) 0 ≡ false =
      ap (λ (k : ℕ). eqb k 0) n ∙ ne_eqb (number_of refusal) 0 (λ z. let h = numbers_from-1 refusal in absurd (omega arith)) in
      let turn : Turn = turn_of now store b es in record {
        answers = sym (ap₂ (λ (r : Result (Unit {0}) Refusal) (c : Bool). shape r c turn) tested no_zero);
        writes = sym (ap (λ (c : Bool). laid_over (cond c turn.packet []) out) no_zero);
      }
    where
      shape : Result (Unit {0}) Refusal → Bool → Turn → Ticked
      shape r c t = record {
        answer = answer_for r (cond c t.packet []);
        more = cond c (is_due now store t.browser es) false;
        browser = cond c t.browser b;
      }

  -- ---- taken

  module _ (ok : number ≡ 0) where
    passed : Passed b now es store (length out)
    passed = tick-passed b now es store (length out) ok

    none : tick_refusal b now es store (length out) ≡ 0
    none = sym (tick-number b now es store (length out)) ∙ ok

    taken : refused_by (tick_tests b now es store (length out)) ≡ Ok tt
    unfolding tick_refusal
    taken = none_by (tick_tests b now es store (length out)) none

    -- no slot is behind every table
    owed_slots : known_from now store b es (owed_start b) ≡ known_owed now store b es b.owed
    unfolding known_from known_in
    owed_slots = go b.owed
      where
        go : (s : Option ℕ) → known_in now store b (or_no_slot s) (drop (or_no_slot s) es) ≡ known_owed now store b es s
        go (Some i) = refl
        go None =
            let l = passed.size in
            let far : length es ≤ no_slot = omega arith in
            ap (known_in now store b no_slot) (drop_of_length-le es far)

    -- what `finish` gave is what the turn is, its answer and whether more is due
    abbrev turn : Turn
    turn = turn_of now store b es

    answered : (r : Ticked) (packet : List ℕ) → packet ≡ turn.packet → r.answer ≡ answer_with (length packet) → r.more
        ≡ is_due now store turn.browser es → r.browser ≡ turn.browser
        → Ticks b now es store out r (laid_over packet out)
    unfolding tick_of ticked_packet
    answered r packet p a m s = record {
      answers =
          (λ i. record {
            answer = (a ∙ ap (λ (x : List ℕ). answer_with (length x)) p ∙ sym (ap₂ (λ (r : Result (Unit {0}) Refusal) (k : ℕ).
                answer_for r (cond (eqb k 0) turn.packet [])) taken none)) i;
            more = (m ∙ sym (ap (λ (k : ℕ). cond (eqb k 0) (is_due now store turn.browser es) false) none)) i;
            browser = (s ∙ sym (ap (λ (k : ℕ). cond (eqb k 0) turn.browser b) none)) i;
          });
      writes = ap (λ (x : List ℕ). laid_over x out) (p ∙ sym (ap (λ (k : ℕ). cond (eqb k 0) turn.packet []) none));
    }

    sent : (n : ℕ) → 1 ≤ n → Sent n ≡ answer_with n
    sent n h = sym (ap (λ (c : Bool). cond c Quiet (Sent n)) (ne_eqb n 0 (λ e. omega arith)))

    -- known answers that are owed
    module _ (i : ℕ) (is : List ℕ) (some : known_owed now store b es b.owed ≡ i ∷ is) where
      many : 0 < owed.n
      many = let c = plan_some false b passed.sound now store es (owed_start b) in let l = ap (λ (x : List ℕ). length (take 121 x))
          (owed_slots ∙ some) in omega arith

      turn_is : turn ≡ turn_with now store b es (i ∷ is)
      unfolding turn_of
      turn_is = ap (turn_with now store b es) some

      packet_is : draft_packet false b store owed ≡ packet_for now store es [] (i ∷ is)
      packet_is = draft_packet_lem false b passed.sound now store es (owed_start b) ∙ ap (packet_for now store es []) (owed_slots ∙ some)

      stop_is : draft_stop false b store owed ≡ stop_for now store es [] (i ∷ is)
      stop_is = draft_stop_lem false b passed.sound now store es (owed_start b) ∙ ap (stop_for now store es []) (owed_slots ∙ some)

      more_is : (is_owed (draft_stop false b store owed) || leb next now) ≡ is_due now store (resumed b now (draft_stop false b store owed)) es
      unfolding is_due resumed
      more_is = ap (λ (c : Bool). is_owed (draft_stop false b store owed) || c) (due-is now store b es
          ∙ sym (resumed-due now store b (draft_stop false b store owed) es))

      owed_packet : ended_packet b store now next owed known ≡ draft_packet false b store owed
      unfolding ended_packet
      owed_packet = simp (lt-ltb 0 owed.n many)

      owed_tick : ended_tick b store now next owed known
          ≡ sent_tick (draft_packet false b store owed) (is_owed (draft_stop false b store owed) || leb next now) (resumed b now (draft_stop false b store owed))
      unfolding ended_tick
      owed_tick = simp (lt-ltb 0 owed.n many)

      done-owed : Ticks b now es store out (ended_tick b store now next owed known) (laid_over (ended_packet b store now next owed known) out)
      done-owed =
          let browser_is : resumed b now (draft_stop false b store owed) ≡ turn.browser = ap (resumed b now) stop_is
          ∙ sym (ap (λ (t : Turn). t.browser) turn_is) in
          subst (λ (r : Ticked). Ticks b now es store out r (laid_over (ended_packet b store now next owed known) out)) (sym owed_tick)
          (subst (λ (p : List ℕ). Ticks b now es store out (sent_tick (draft_packet false b store owed)
          (is_owed (draft_stop false b store owed) || leb next now) (resumed b now (draft_stop false b store owed))) (laid_over p out))
          (sym owed_packet)
          (answered (sent_tick (draft_packet false b store owed) (is_owed (draft_stop false b store owed) || leb next now)
          (resumed b now (draft_stop false b store owed)))
          (draft_packet false b store owed) (packet_is ∙ sym (ap (λ (t : Turn). t.packet) turn_is))
          (sent (length (draft_packet false b store owed)) (packet_some false b passed.sound now store es (owed_start b)))
          (more_is ∙ ap (λ (x : Browser). is_due now store x es) browser_is) browser_is))

    -- none are owed
    module _ (empty : known_owed now store b es b.owed ≡ []) where
      nought : owed.n ≤ 0
      nought = let c = plan_some false b passed.sound now store es (owed_start b) in let l = ap (λ (x : List ℕ). length (take 121 x))
          (owed_slots ∙ empty) in omega arith

      module _ (late : now < next) where
        not-due : query_due now store b es ≡ false
        not-due = sym (due-is now store b es) ∙ lt-leb next now late

        quiet_turn : ◌≡◌ {A = Turn} turn (record { packet = []; browser = resumed b now None })
        unfolding turn_of
        quiet_turn = ap (turn_with now store b es) empty ∙ ap (λ (c : Bool). cond c (record {
          packet = packet_for now store es (asking b)
              (known_from now store b es 0);
          browser = asked b now (stop_for now store es (asking b) (known_from now store b es 0));
        })
            (record { packet = []; browser = resumed b now None })) not-due

        quiet_packet : ended_packet b store now next owed known ≡ []
        unfolding ended_packet
        quiet_packet = simp (le-ltb 0 owed.n nought, lt-ltb now next late)

        quiet_tick : ◌≡◌ {A = Ticked} (ended_tick b store now next owed known) (record { answer = Quiet; more = false; browser = resumed b now None })
        unfolding ended_tick
        quiet_tick = simp (le-ltb 0 owed.n nought, lt-ltb now next late)

        nothing-due : false ≡ is_due now store (resumed b now None) es
        unfolding is_due resumed
        nothing-due = sym (resumed-due now store b None es ∙ not-due)

        done-quiet : Ticks b now es store out (ended_tick b store now next owed known) (laid_over (ended_packet b store now next owed known) out)
        done-quiet =
            let r : Ticked = record { answer = Quiet; more = false; browser = resumed b now None } in
            subst (λ (x : Ticked). Ticks b now es store out x (laid_over (ended_packet b store now next owed known) out)) (sym quiet_tick)
            (subst (λ (p : List ℕ). Ticks b now es store out r (laid_over p out)) (sym quiet_packet)
            (answered r [] (sym (ap (λ (t : Turn). t.packet) quiet_turn)) refl
            (nothing-due ∙ ap (λ (x : Browser). is_due now store x es) (sym (ap (λ (t : Turn). t.browser) quiet_turn)))
            (sym (ap (λ (t : Turn). t.browser) quiet_turn))))

      module _ (come : next ≤ now) where
        is-due : query_due now store b es ≡ true
        is-due = sym (due-is now store b es) ∙ le-leb next now come

        from-0 : start ≡ 0
        unfolding asked_start
        from-0 = simp (le-ltb 0 owed.n nought, le-ltb now next come)

        asked-turn : ◌≡◌ {A = Turn} turn (record {
          packet = packet_for now store es (asking b) (known_from now store b es 0);
          browser = asked b now
              (stop_for now store es (asking b) (known_from now store b es 0));
        })
        unfolding turn_of
        asked-turn = ap (turn_with now store b es) empty ∙ ap (λ (c : Bool). cond c (record {
          packet = packet_for now store es (asking b)
              (known_from now store b es 0);
          browser = asked b now (stop_for now store es (asking b) (known_from now store b es 0));
        })
            (record { packet = []; browser = resumed b now None })) is-due

        asked-packet : ended_packet b store now next owed known ≡ draft_packet true b store known
        unfolding ended_packet
        asked-packet = simp (le-ltb 0 owed.n nought, le-ltb now next come)

        asked-tick : ended_tick b store now next owed known ≡ sent_tick (draft_packet true b store known) (is_owed (draft_stop true b store known))
            (asked b now (draft_stop true b store known))
        unfolding ended_tick
        asked-tick = simp (le-ltb 0 owed.n nought, le-ltb now next come)

        packet_so : draft_packet true b store known ≡ packet_for now store es (asking b) (known_from now store b es 0)
        packet_so = draft_packet_lem true b passed.sound now store es start ∙ ap (λ (k : ℕ). packet_for now store es (asking b) (known_from now store b es k))
            from-0

        stop-so : draft_stop true b store known ≡ stop_for now store es (asking b) (known_from now store b es 0)
        stop-so = draft_stop_lem true b passed.sound now store es start ∙ ap (λ (k : ℕ). stop_for now store es (asking b) (known_from now store b es k)) from-0

        more_so : is_owed (draft_stop true b store known) ≡ is_due now store (asked b now (draft_stop true b store known)) es
        unfolding is_due asked
        more_so = whole (is_owed (draft_stop true b store known)) ∙ ap (λ (c : Bool). is_owed (draft_stop true b store known) || c)
            (sym (asked-due now store b (draft_stop true b store known) es))
          where
            whole : (c : Bool) → c ≡ (c || false)
            whole true = refl
            whole false = refl

        done-asked : Ticks b now es store out (ended_tick b store now next owed known) (laid_over (ended_packet b store now next owed known) out)
        done-asked =
            let browser_is : asked b now (draft_stop true b store known) ≡ turn.browser = ap (asked b now) stop-so
            ∙ sym (ap (λ (t : Turn). t.browser) asked-turn) in
            let r : Ticked = sent_tick (draft_packet true b store known) (is_owed (draft_stop true b store known)) (asked b now (draft_stop true b store known)) in
            subst (λ (x : Ticked). Ticks b now es store out x (laid_over (ended_packet b store now next owed known) out)) (sym asked-tick)
            (subst (λ (p : List ℕ). Ticks b now es store out r (laid_over p out)) (sym asked-packet)
            (answered r (draft_packet true b store known) (packet_so ∙ sym (ap (λ (t : Turn). t.packet) asked-turn))
            (sent (length (draft_packet true b store known)) (packet_some true b passed.sound now store es start))
            (more_so ∙ ap (λ (x : Browser). is_due now store x es) browser_is) browser_is))

    -- all three
    pub tick-done : Ticks b now es store out (ended_tick b store now next owed known) (laid_over (ended_packet b store now next owed known) out)
    tick-done = go (known_owed now store b es b.owed) refl
      where
        go : (l : List ℕ) → known_owed now store b es b.owed ≡ l
            → Ticks b now es store out (ended_tick b store now next owed known) (laid_over (ended_packet b store now next owed known) out)
        go (i ∷ is) e = done-owed i is e
        go [] e = split (ltb now next) refl
          where
            split : (c : Bool) → ltb now next ≡ c
                → Ticks b now es store out (ended_tick b store now next owed known) (laid_over (ended_packet b store now next owed known) out)
            split true k = let l : now < next = ltb-true now next k in done-quiet e l
            split false k = let l : next ≤ now = ltb-false now next k in done-asked e l
