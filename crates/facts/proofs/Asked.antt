-- The own records that are asked for by questions of a kind, a question after the other; and that the two kinds together ask for what is asked for. Assumes nothing.
use mathlib.Core.Path.{◌≡◌, refl, sym, ap, ◌∙◌}
use mathlib.Core.List.{List, [], ◌∷◌}
use mathlib.Core.Bool.{Bool, true, false, cond, not, ◌&&◌, ◌||◌, or_assoc, or-false}
use Prim.Native.Nat.{ℕ, ◌-◌, ◌<◌, ◌≤◌}
use Rattle.wire.specs.Lists.{some}
use Rattle.wire.specs.message.Message.{Question, Message}
use Rattle.wire.specs.message.Layout.{broken, question_at}
use Rattle.wire.specs.message.Readable.{readable, message_in, question_shown}
use Rattle.wire.specs.declared.message.QuestionAt.{QuestionAt}
use Rattle.wire.specs.declared.message.Layout.{Layout}
use Rattle.wire.proofs.message.Walk.{walk_done, walk_broken, walk_on}
use Rattle.facts.specs.Found.{QuestionSeen}
use Rattle.claims.specs.records.Own.{has, each}
use Rattle.claims.specs.records.Sets.{no_record}
use Rattle.claims.specs.holds.Holds.{union}
use Rattle.claims.specs.declared.records.Own.{Own}
use Rattle.claims.specs.declared.records.Set.{Set}
use Rattle.claims.proofs.records.Sets.{has-each}
use Rattle.own.specs.declared.records.Setup.{Setup}
use Rattle.facts.specs.Questions.{is_qm, is_qu}
use Rattle.facts.specs.declared.AskedFor.{AskedFor}
use Rattle.facts.specs.Facts.{asks_own, asked_with, is_asked, is_asked_as}

-- those asked for before, and those that the questions of a kind in a list ask for
abbrev pub asked_in : (Question → Bool) → Setup → Set → List Question → Set
asked_in kind s before qs = each (λ o. has o before || some (λ q. kind q && asks_own s o q) qs)

-- one record
module _ (before : Set) (o : Own) (v : Bool) (is : v ≡ has o before) where
  pub asked-before : v ≡ true → (b : Bool) → true ≡ (has o before || b)
  asked-before e b = sym (ap (λ (h : Bool). h || b) (sym is ∙ e))

  pub asked_here : v ≡ false → (b w : Bool) → w ≡ b → w ≡ (has o before || b)
  asked_here e b w h = h ∙ sym (ap (λ (h : Bool). h || b) (sym is ∙ e))

-- the loop over the questions
module _ (kind : Question → Bool) (p : List ℕ) (s : Setup) (all : Set) (n at : ℕ) (before : Set)
    (inv : all ≡ asked_in kind s before (readable (question_at p) n at)) where
  none_more : before ≡ each (λ o. has o before || false)
  none_more = λ i. each (λ o. sym (or-false (has o before)) i)

  pub asked-done : n ≤ 0 → before ≡ all
  unfolding some
  asked-done l = none_more ∙ walk_done (question_at p) (asked_in kind s before) all n at inv l

  pub asked-broken : question_at p at ≡ broken → before ≡ all
  unfolding some
  asked-broken e = none_more ∙ walk_broken (question_at p) (asked_in kind s before) all n at inv e

  pub asked-turn : 0 < n → (f : QuestionAt) → QuestionSeen p at f → (d : Set)
      → d ≡ cond (kind (question_shown p f)) (asked_with s (question_shown p f) before) before
      → all ≡ asked_in kind s d (readable (question_at p) (n - 1) f.next)
  unfolding some
  asked-turn lt f m d e =
      walk_on (question_at p) (asked_in kind s before) all n at inv lt (question_shown p f) f.next m.here
      ∙ (λ i. each (λ o. step o (some (λ q. kind q && asks_own s o q) (readable (question_at p) (n - 1) f.next)) i))
    where
      shown : Question
      shown = question_shown p f

      here : (k : Bool) (o : Own) → has o (cond k (asked_with s shown before) before) ≡ (has o before || (k && asks_own s o shown))
      here true o = has-each (λ q. has q before || asks_own s q shown) o
      here false o = sym (or-false (has o before))

      step : (o : Own) (rest : Bool) → (has o before || ((kind shown && asks_own s o shown) || rest)) ≡ (has o d || rest)
      step o rest =
          sym (or_assoc (has o before) (kind shown && asks_own s o shown) rest)
          ∙ ap (λ (b : Bool). b || rest) (sym (ap (has o) e ∙ here (kind shown) o))

-- all questions of a message, from no record on
pub asked-all : (kind : Question → Bool) (p : List ℕ) (l : Layout) (s : Setup) (none : Set) → none ≡ no_record → (r : Set)
    → r ≡ asked_in kind s none (readable (question_at p) l.questions.count l.questions.at) → r ≡ each (λ o. is_asked_as kind s o (message_in p l))
unfolding is_asked_as message_in
asked-all kind p l s none e r h = h ∙ ap (λ (b : Set). asked_in kind s b (readable (question_at p) l.questions.count l.questions.at)) e

-- ---- both kinds

-- a question of one kind leaves alone what those of the other ask for
module _ (s : Setup) (q : Question) (qm qu : Set) where
  abbrev Too : AskedFor → Type 0
  Too r = r ≡ record { qm = cond (is_qm q) (asked_with s q qm) qm; qu = cond (is_qu q) (asked_with s q qu) qu }

  pub by-qu : is_qu q ≡ true → (d : Set) → d ≡ asked_with s q qu → Too (record { qm = qm; qu = d })
  by-qu e d h = simp (e, h)

  pub by-qm : is_qu q ≡ false → (d : Set) → d ≡ asked_with s q qm → Too (record { qm = d; qu = qu })
  by-qm e d h = simp (e, h)

some-split : (kind test : Question → Bool) (qs : List Question)
    → (some (λ q. not (kind q) && test q) qs || some (λ q. kind q && test q) qs) ≡ some test qs
unfolding some
some-split kind test [] = refl
some-split kind test (q ∷ qs) =
    go (kind q) (test q) (some (λ q. not (kind q) && test q) qs) (some (λ q. kind q && test q) qs) (some test qs) (some-split kind test qs)
  where
    go : (k t a b r : Bool) → (a || b) ≡ r → (((not k && t) || a) || ((k && t) || b)) ≡ (t || r)
    go true true true b r h = refl
    go true true false b r h = refl
    go false true a b r h = refl
    go true false a b r h = h
    go false false a b r h = h

-- what questions of either kind ask for is what is asked for
pub asked-either : (s : Setup) (m : Message) (qm qu r : Set) → qm ≡ each (λ o. is_asked_as is_qm s o m) → qu ≡ each (λ o. is_asked_as is_qu s o m)
    → r ≡ union qm qu → r ≡ each (λ o. is_asked s o m)
unfolding is_asked is_asked_as union
asked-either s m qm qu r em eu e =
    e ∙ (λ i. union (em i) (eu i)) ∙ (λ i. each (λ o. some-split is_qu (asks_own s o) m.questions i))
