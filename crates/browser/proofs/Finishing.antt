-- What a tick that is not refused ends in, from what was written. Assumes nothing.
use Rattle.std.proofs.Common.{None, Option}
use mathlib.Core.Path.{◌≡◌, refl, sym, ap, ◌∙◌}
use mathlib.Core.Bool.{Bool, true, false, ◌||◌}
use mathlib.Core.List.{List, []}
use Prim.Native.Nat.{ℕ, ◌≤◌, ◌<◌}
use lib.Dec.{leb}
use borrow.Author.Tests.{lt-ltb, le-ltb}
use Rattle.writer.specs.own_packets.Own.{laid_over}
use Rattle.browser.specs.declared.Browser.{Browser}
use Rattle.browser.specs.declared.Answer.TheVariants.{Quiet, Sent}
use Rattle.browser.specs.declared.known_answers.Plan.{Plan}
use Rattle.browser.specs.declared.query.Draft.{Draft}
use Rattle.browser.specs.query.Drafts.{stop_at, draft_stop, draft_packet, Writes}
use Rattle.browser.specs.Calls.{is_owed, resumed, asked}
use Rattle.browser.specs.Steps.{ended_packet, ended_tick, Ends}

module _ (b : Browser) (now : ℕ) (store : List ℕ) (next : ℕ) (owed known : Plan) (out : List ℕ) where
  packet_owed : 0 < owed.n → ended_packet b store now next owed known ≡ draft_packet false b store owed
  unfolding ended_packet
  packet_owed h = simp (lt-ltb _ _ h)

  pub finish_owed : 0 < owed.n → (d : Draft) (out' : List ℕ) → Writes false b store owed out d out' → (stop : Option ℕ) → stop ≡ stop_at owed d.answers
      → (more : Bool) → more ≡ (is_owed stop || leb next now) → (r : Browser) → r ≡ resumed b now stop
      → Ends b now store next owed known out (record { answer = Sent d.end; more = more; browser = r }) out'
  unfolding ended_tick
  finish_owed h d out' w stop s more m r k =
      let at : stop ≡ draft_stop false b store owed = s ∙ ap (stop_at owed) w.answers in record {
        answers =
            (λ i. record {
              answer = Sent (w.ended i);
              more = (m ∙ ap (λ (x : Option ℕ). is_owed x || leb next now) at) i;
              browser = (k ∙ ap (resumed b now) at) i;
            }) ∙ sym (simp (lt-ltb _ _ h));
        writes = w.bytes ∙ sym (ap (λ (p : List ℕ). laid_over p out) (packet_owed h));
      }

  module _ (none : owed.n ≤ 0) where
    packet_none : now < next → ended_packet b store now next owed known ≡ []
    unfolding ended_packet
    packet_none h = simp (le-ltb _ _ none, lt-ltb _ _ h)

    packet_asked : next ≤ now → ended_packet b store now next owed known ≡ draft_packet true b store known
    unfolding ended_packet
    packet_asked h = simp (le-ltb _ _ none, le-ltb _ _ h)

    pub finish_quiet : now < next → (r : Browser) → r ≡ resumed b now None
        → Ends b now store next owed known out (record { answer = Quiet; more = false; browser = r }) out
    unfolding ended_tick
    finish_quiet h r k = record {
      answers = (λ i. record { answer = Quiet; more = false; browser = k i }) ∙ sym (simp (le-ltb _ _ none, lt-ltb _ _ h));
      writes = sym (ap (λ (p : List ℕ). laid_over p out) (packet_none h));
    }

    pub finish_asked : next ≤ now → (d : Draft) (out' : List ℕ) → Writes true b store known out d out' → (stop : Option ℕ) → stop ≡ stop_at known d.answers
        → (more : Bool) → more ≡ (is_owed stop || false) → (r : Browser) → r ≡ asked b now stop
        → Ends b now store next owed known out (record { answer = Sent d.end; more = more; browser = r }) out'
    unfolding ended_tick
    finish_asked h d out' w stop s more m r k =
        let at : stop ≡ draft_stop true b store known = s ∙ ap (stop_at known) w.answers in record {
          answers =
              (λ i. record {
                answer = Sent (w.ended i);
                more = (m ∙ whole (is_owed stop) ∙ ap is_owed at) i;
                browser = (k ∙ ap (asked b now) at) i;
              }) ∙ sym (simp (le-ltb _ _ none, le-ltb _ _ h));
          writes = w.bytes ∙ sym (ap (λ (p : List ℕ). laid_over p out) (packet_asked h));
        }
      where
        whole : (c : Bool) → (c || false) ≡ c
        whole true = refl
        whole false = refl
