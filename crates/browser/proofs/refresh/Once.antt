-- A refresh query goes out at most once for a threshold. Assumes nothing.
use Rattle.std.proofs.Common.{Option}
use mathlib.Core.Path.{◌≡◌, refl, sym, ap, subst, ◌∙◌}
use mathlib.Core.Bool.{Bool, true, false, ◌&&◌, and-false}
use mathlib.Core.List.{List, [], ◌∷◌}
use Prim.Native.Nat.{ℕ, ◌+◌, ◌*◌, ◌≤◌}
use native.Mathlib.Omega.{arith}
use lib.Dec.{ltb, leb}
use borrow.Author.Tests.{le-ltb}
use Rattle.browser.specs.declared.Browser.{Browser}
use Rattle.browser.specs.refresh.Refresh.{threshold}
use Rattle.browser.specs.refresh.Once.{RefreshOnce}
use Rattle.browser.specs.series.Spacing.{asks}
use Rattle.browser.specs.Calls.{resumed, asked}
use Rattle.browser.specs.Runs.{Event, packet, tick, State, after, after_all}
use Rattle.browser.proofs.Stepping.{Step, refused, kept, sent, step}

-- the last query of the second browser is not before that of the first, nor after its own last call, and its draw is the same
pub record Later (b t : Browser) : Type 0 where
  pub query : b.query ≤ t.query
  pub last : t.query ≤ t.last
  pub draw : t.refresh ≡ b.refresh

resumed-later : (b : Browser) (now : ℕ) (owed : Option ℕ) → b.query ≤ b.last → b.last ≤ now → Later b (resumed b now owed)
unfolding resumed
resumed-later b now owed h l = record { query = omega arith; last = omega arith; draw = refl }

asked-later : (b : Browser) (now : ℕ) (owed : Option ℕ) → b.query ≤ b.last → b.last ≤ now → Later b (asked b now owed)
unfolding asked
asked-later b now owed h l = record { query = omega arith; last = omega arith; draw = refl }

pub tick-later : (s : State) (now room : ℕ) → s.browser.query ≤ s.browser.last → Later s.browser (after s (tick now room)).browser
tick-later s now room h = go (step s now room)
  where
    go : Step s now room (after s (tick now room)).browser → Later s.browser (after s (tick now room)).browser
    go (refused a e) = subst (Later s.browser) (sym e) (record { query = omega arith; last = h; draw = refl })
    go (kept a l owed e) = subst (Later s.browser) (sym e) (resumed-later s.browser now owed h l)
    go (sent a l owed e) = subst (Later s.browser) (sym e) (asked-later s.browser now owed h l)

-- `query-kept`: so it is after any run
pub query-kept : (s : State) (run : List Event) → s.browser.query ≤ s.browser.last → Later s.browser (after_all s run).browser
query-kept s [] h = record { query = omega arith; last = h; draw = refl }
query-kept s (packet now port p ∷ run) h = query-kept (after s (packet now port p)) run h
query-kept s (tick now room ∷ run) h =
    let one = tick-later s now room h in
    let rest = query-kept (after s (tick now room)) run one.last in record {
      query = chain s.browser.query (after s (tick now room)).browser.query (after_all (after s (tick now room)) run).browser.query one.query
          rest.query;
      last = rest.last;
      draw = rest.draw ∙ one.draw;
    }
  where
    chain : (x y z : ℕ) → x ≤ y → y ≤ z → x ≤ z
    chain x y z h l = omega arith

sent_query : (b : Browser) (now : ℕ) (owed : Option ℕ) → (asked b now owed).query ≡ now
unfolding asked
sent_query b now owed = refl

asked-query : (s : State) (now room : ℕ) → asks s now room ≡ true → (after s (tick now room)).browser.query ≡ now
asked-query s now room h = go (step s now room)
  where
    never : asks s now room ≡ false → ⊥
    never a = let z : ◌≡◌ {A = Bool} true false = sym h ∙ a in let w : ◌≡◌ {A = ℕ} 0 1 = cc in omega arith

    go : Step s now room (after s (tick now room)).browser → (after s (tick now room)).browser.query ≡ now
    go (refused a e) = absurd (never a)
    go (kept a l owed e) = absurd (never a)
    go (sent a l owed e) = ap (λ (b : Browser). b.query) e ∙ sent_query s.browser now owed

pub refresh_once : RefreshOnce
refresh_once s now room run h a e part th time =
    let one = tick-later s now room h in
    let all = query-kept (after s (tick now room)) run one.last in
    let q : (after s (tick now room)).browser.query ≡ now = asked-query s now room a in
    let draw : (after_all (after s (tick now room)) run).browser.refresh ≡ s.browser.refresh = all.draw ∙ one.draw in
    never (after_all (after s (tick now room)) run).browser.query (after_all (after s (tick now room)) run).browser.refresh draw
    (subst (λ (n : ℕ). n ≤ (after_all (after s (tick now room)) run).browser.query) q all.query)
  where
    never : (query refresh : ℕ) → refresh ≡ s.browser.refresh → now ≤ query
        → (leb (e.received + e.ttl * (part + refresh)) time && ltb query (e.received + e.ttl * (part + refresh))) ≡ false
    never query refresh d l =
        ap (λ (r : ℕ). leb (e.received + e.ttl * (part + r)) time && ltb query (e.received + e.ttl * (part + r))) d
        ∙ past (threshold s.browser e part) th
      where
        past : (t : ℕ) → t ≤ now → (leb t time && ltb query t) ≡ false
        past t k = ap (λ (c : Bool). leb t time && c) (le-ltb query t (omega arith)) ∙ and-false (leb t time)
