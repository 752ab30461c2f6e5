-- For callers: which test refuses a message. Assumes nothing.
use Rattle.wire.specs.declared.refusals.Refusal.TheVariants.{Length, Header, Malformed}
use Rattle.wire.specs.refusals.Numbers.{number_of, number_in, refused_by}
use Rattle.wire.proofs.refusals.Tests.{numbers_from-1, number_by}
use Rattle.std.specs.Prelude.{Err, Ok, Result}
use Rattle.wire.specs.declared.refusals.Refusal.{Refusal}
use mathlib.Core.Path.{◌≡◌, refl, sym, ap, ◌∙◌}
use mathlib.Core.List.{List}
use mathlib.Core.Bool.{Bool, true, false, cond, not, ◌||◌}
use Prim.Native.Nat.{ℕ, ◌<◌, ◌≤◌}
use native.Mathlib.Omega.{arith}
use lib.ListN.{length}
use lib.Dec.{eqb}
use borrow.Author.Tests.{lt-ltb, le-ltb, lt-leb, le-leb}
use Rattle.wire.specs.octets.Octets.{word16}
use Rattle.wire.specs.message.Message.{Message}
use Rattle.wire.specs.message.Layout.{Listing, listing, cut, question_at, record_at, list_from, Reads, read, refused, and_then, sections_of, wrong_length, wrong_header, message_at, read_of, refusal_of}
use Rattle.wire.specs.message.Refusals.{wrong_port, is_refused, is_malformed, packet_refusal, message_tests, message_refusal, or_refused, message_from}
use Rattle.wire.specs.declared.message.Layout.{Layout}
use Rattle.wire.proofs.message.Cursor.{as_read}

-- what a result is by its contract and by a test of it
pub told : {A : Type 0} {r test v : A} → r ≡ test → r ≡ v → test ≡ v
told e t = cc

-- sections that are cut are refused as malformed
OnlyMalformed : Reads → Type 0
OnlyMalformed x = (refusal : Refusal) → x ≡ refused refusal → refusal ≡ Malformed

then_malformed : {A : Type 0} (x : Listing A) (next : List A → ℕ → Reads) → ((xs : List A) (e : ℕ) → OnlyMalformed (next xs e)) → OnlyMalformed (and_then x next)
unfolding and_then OnlyMalformed
then_malformed (listing xs e) next h = h xs e
then_malformed cut next h = λ refusal e. cc

sections_malformed : (p : List ℕ) → OnlyMalformed (sections_of p)
unfolding OnlyMalformed
sections_malformed p =
    then_malformed (list_from (question_at p) (word16 p 4) 12) _ (λ qs a.
    then_malformed (list_from (record_at p) (word16 p 6) a) _ (λ an b.
    then_malformed (list_from (record_at p) (word16 p 8) b) _ (λ ns c.
    then_malformed (list_from (record_at p) (word16 p 10) c) _ (λ ar e refusal k. let z : ◌≡◌ {A = ℕ} 0 1 = cc in absurd (omega arith)))))

-- the port: a query comes from any
module _ (p : List ℕ) (port w : ℕ) (is : w ≡ word16 p 2) where
  pub query-port : w < 32768 → false ≡ wrong_port port p
  query-port h = simp (← is, lt-leb _ _ h)

  pub response_port : 32768 ≤ w → (v : Bool) → v ≡ not (eqb port 5353) → v ≡ wrong_port port p
  response_port h v e = e ∙ sym (simp (← is, le-leb _ _ h))

module _ (p : List ℕ) where
  malformed_is : refusal_of (read_of (sections_of p)) ≡ cond (is_malformed p) 6 0
  unfolding OnlyMalformed
  malformed_is = go (sections_of p) (sections_malformed p)
    where
      go : (x : Reads) → ((refusal : Refusal) → x ≡ refused refusal → refusal ≡ Malformed) → refusal_of (read_of x) ≡ cond (is_refused x) 6 0
      go (read l m) h = refl
      go (refused refusal) h = ap number_of (h refusal refl)

  -- the number with which `read_message` refuses is that of the first test of the packet that holds
  pub refusal_is : refusal_of (read_of (message_at p)) ≡ packet_refusal p
  unfolding message_at packet_refusal
  refusal_is = go (wrong_length p) (wrong_header p)
    where
      go : (a b : Bool) → refusal_of (read_of (cond a (refused Length) (cond b (refused Header) (sections_of p)))) ≡ cond a 4 (cond b 5 (cond (is_malformed p) 6 0))
      go true b = refl
      go false true = refl
      go false false = malformed_is

  pub number_is : (r : (Result Layout Refusal)) → r ≡ read_of (message_at p) → refusal_of r ≡ packet_refusal p
  number_is r h = ap refusal_of h ∙ refusal_is

  -- a packet is refused as 4, 5 or 6, if at all
  pub refused_as : (refusal : Refusal) → message_at p ≡ refused refusal → (4 ≤ number_of refusal) × (number_of refusal ≤ 6)
  unfolding message_at OnlyMalformed
  refused_as refusal h = go (wrong_length p) (wrong_header p) h
    where
      between : (n : ℕ) → number_of refusal ≡ n → 4 ≤ n → n ≤ 6 → (4 ≤ number_of refusal) × (number_of refusal ≤ 6)
      between n e l m = (omega arith, omega arith)

      go : (a b : Bool) → cond a (refused Length) (cond b (refused Header) (sections_of p)) ≡ refused refusal → (4 ≤ number_of refusal) × (number_of refusal ≤ 6)
      go true b e = let is : Length ≡ refusal = cc in between 4 (ap number_of (sym is)) (omega arith) (omega arith)
      go false true e = let is : Header ≡ refusal = cc in between 5 (ap number_of (sym is)) (omega arith) (omega arith)
      go false false e = between 6 (ap number_of (sections_malformed p refusal e)) (omega arith) (omega arith)

  -- the refusal of a message from a port, from what a caller has tested
  module _ (port : ℕ) where
    pub from-short : length p < 12 → message_refusal port p ≡ 4
    unfolding message_refusal
    from-short h = simp (lt-ltb _ _ h)

    pub from-long : 8972 < length p → message_refusal port p ≡ 4
    unfolding message_refusal
    from-long h =
        let least : 12 ≤ length p = omega arith in
        simp (le-ltb _ _ least, lt-ltb _ _ h)

    module _ (least : 12 ≤ length p) (most : length p ≤ 8972) where
      right_length : wrong_length p ≡ false
      right_length = simp (le-ltb _ _ least, le-ltb _ _ most)

      pub from-elsewhere : wrong_port port p ≡ true → message_refusal port p ≡ 5
      unfolding message_refusal
      from-elsewhere h = go (wrong_length p) (wrong_header p) (wrong_port port p) right_length h
        where
          go : (a b c : Bool) → a ≡ false → c ≡ true → ◌≡◌ {A = ℕ} (cond a 4 (cond (b || c) 5 (cond (is_malformed p) 6 0))) 5
          go false true c f g = refl
          go false false true f g = refl
          go false false false f g = let z : ◌≡◌ {A = ℕ} 0 1 = cc in absurd (omega arith)
          go true b c f g = let z : ◌≡◌ {A = ℕ} 0 1 = cc in absurd (omega arith)

    pub from-there : wrong_port port p ≡ false → message_refusal port p ≡ refusal_of (read_of (message_at p))
    unfolding message_refusal packet_refusal
    from-there h = go (wrong_header p) (wrong_port port p) h ∙ sym refusal_is
      where
        go : (b c : Bool) → c ≡ false
            → ◌≡◌ {A = ℕ} (cond (wrong_length p) 4 (cond (b || c) 5 (cond (is_malformed p) 6 0))) (cond (wrong_length p) 4 (cond b 5 (cond (is_malformed p) 6 0)))
        go true c g = refl
        go false false g = refl
        go false true g = let z : ◌≡◌ {A = ℕ} 0 1 = cc in absurd (omega arith)

    -- a packet that is not refused is no response from another port, and was read
    pub accepted_from : message_refusal port p ≡ 0 → (wrong_port port p ≡ false) × (l : Layout) × (says : Message) × (message_at p ≡ read l says)
    unfolding message_refusal packet_refusal
    accepted_from h =
        let t = go (wrong_length p) (wrong_header p) (wrong_port port p) (is_malformed p) h in
        let r = was_read (message_at p) refl (refusal_is ∙ t.1) in
        (t.0, r.0, r.1, r.2)
      where
        go : (a b c d : Bool) → ◌≡◌ {A = ℕ} (cond a 4 (cond (b || c) 5 (cond d 6 0))) 0 → (c ≡ false) × (◌≡◌ {A = ℕ} (cond a 4 (cond b 5 (cond d 6 0))) 0)
        go true b c d e = absurd (omega (arith, e))
        go false true c d e = absurd (omega (arith, e))
        go false false true d e = absurd (omega (arith, e))
        go false false false true e = absurd (omega (arith, e))
        go false false false false e = (refl, refl)

        was_read : (x : Reads) → message_at p ≡ x → refusal_of (read_of x) ≡ 0 → (l : Layout) × (says : Message) × (message_at p ≡ read l says)
        was_read (read l says) e z = (l, says, e)
        was_read (refused refusal) e z = absurd (omega (arith, (refused_as refusal e).0))

-- what is read, or a refusal: the answer of a function, and what a caller learns from it
module _ (u : Result (Unit {0}) Refusal) (x : Reads) where
  pub refusing : (refusal : Refusal) → u ≡ Err refusal → Err refusal ≡ read_of (or_refused u x)
  refusing refusal e = sym (ap (λ (v : Result (Unit {0}) Refusal). read_of (or_refused v x)) e)

  pub reading : (r : Result Layout Refusal) → u ≡ Ok tt → r ≡ read_of x → r ≡ read_of (or_refused u x)
  reading r e h = h ∙ sym (ap (λ (v : Result (Unit {0}) Refusal). read_of (or_refused v x)) e)

  module _ (r : Result Layout Refusal) (is : r ≡ read_of (or_refused u x)) where
    pub was_read : (l : Layout) → r ≡ Ok l → (u ≡ Ok tt) × (says : Message) × (x ≡ read l says)
    was_read l e = go u is
      where
        go : (v : Result (Unit {0}) Refusal) → r ≡ read_of (or_refused v x) → (v ≡ Ok tt) × (says : Message) × (x ≡ read l says)
        go (Ok tt) h = let m = as_read x r l h e in (refl, m.0, m.1)
        go (Err refusal) h = let z : ◌≡◌ {A = ℕ} 0 1 = cc in absurd (omega arith)

    -- of a message that is read where nothing is refused
    pub was_refused : (refusal : Refusal) → r ≡ Err refusal → (u ≡ Ok tt → (l : Layout) × (says : Message) × (x ≡ read l says)) → u ≡ Err refusal
    was_refused refusal e full = go u is full
      where
        go : (v : Result (Unit {0}) Refusal) → r ≡ read_of (or_refused v x) → (v ≡ Ok tt → (l : Layout) × (says : Message) × (x ≡ read l says)) → v ≡ Err refusal
        go (Ok tt) h f =
            let k : r ≡ Ok (f refl).0 = h ∙ ap read_of (f refl).2 in
            let z : ◌≡◌ {A = ℕ} 0 1 = cc in absurd (omega arith)
        go (Err other) h f = let i : other ≡ refusal = cc in ap Err i

-- the answers of `read_from`
module _ (p : List ℕ) (port : ℕ) where
  refuses_from : (refusal : Refusal) → refused_by (message_tests port p) ≡ Err refusal → Err refusal ≡ read_of (message_from port p)
  unfolding message_from
  refuses_from refusal h = refusing (refused_by (message_tests port p)) (message_at p) refusal h

  pub short_from : length p < 12 → Err Length ≡ read_of (message_from port p)
  short_from h = refuses_from Length (simp (lt-ltb _ _ h))

  pub long_from : 8972 < length p → Err Length ≡ read_of (message_from port p)
  long_from h =
      let least : 12 ≤ length p = omega arith in
      refuses_from Length (simp (le-ltb _ _ least, lt-ltb _ _ h))

  module _ (least : 12 ≤ length p) (most : length p ≤ 8972) where
    pub elsewhere_from : wrong_port port p ≡ true → Err Header ≡ read_of (message_from port p)
    elsewhere_from h = refuses_from Header (go (wrong_length p) (wrong_header p) (wrong_port port p) (right_length p port least most) h)
      where
        go : (a b c : Bool) → a ≡ false → c ≡ true
            → ◌≡◌ {A = Result (Unit {0}) Refusal} (cond a (Err Length) (cond (b || c) (Err Header) (cond (is_malformed p) (Err Malformed) (Ok tt)))) (Err Header)
        go false true c f g = refl
        go false false true f g = refl
        go false false false f g = let z : ◌≡◌ {A = ℕ} 0 1 = cc in absurd (omega arith)
        go true b c f g = let z : ◌≡◌ {A = ℕ} 0 1 = cc in absurd (omega arith)

  pub read_from_lem : wrong_port port p ≡ false → (r : Result Layout Refusal) → r ≡ read_of (message_at p) → r ≡ read_of (message_from port p)
  unfolding message_from message_at OnlyMalformed
  read_from_lem h r is = is ∙ go (wrong_length p) (wrong_header p) (wrong_port port p) h (sections_of p) (sections_malformed p)
    where
      go : (a b c : Bool) → c ≡ false → (x : Reads) → ((refusal : Refusal) → x ≡ refused refusal → refusal ≡ Malformed)
          → read_of (cond a (refused Length) (cond b (refused Header) x))
          ≡ read_of (or_refused (cond a (Err Length) (cond (b || c) (Err Header) (cond (is_refused x) (Err Malformed) (Ok tt)))) (cond a (refused Length) (cond b (refused Header) x)))
      go true b c g x only = refl
      go false true c g x only = refl
      go false false true g x only = let z : ◌≡◌ {A = ℕ} 0 1 = cc in absurd (omega arith)
      go false false false g (read l says) only = refl
      go false false false g (refused refusal) only = ap Err (only refusal refl)

  -- what a caller of `read_from` learns from its answer
  module _ (r : Result Layout Refusal) (is : r ≡ read_of (message_from port p)) where
    pub taken-from : (l : Layout) → r ≡ Ok l → (message_refusal port p ≡ 0) × (says : Message) × (message_at p ≡ read l says)
    unfolding message_from message_refusal
    taken-from l e =
        let t = was_read (refused_by (message_tests port p)) (message_at p) r is l e in
        (sym (number_by (message_tests port p)) ∙ ap number_in t.0, t.1, t.2)

    pub refused_from : (refusal : Refusal) → r ≡ Err refusal → (message_refusal port p ≡ number_of refusal) × (number_of refusal ≡ 0 → ⊥)
    unfolding message_from message_refusal
    refused_from refusal e =
        let tests = message_tests port p in
        let full : refused_by tests ≡ Ok tt → (l : Layout) × (says : Message) × (message_at p ≡ read l says) = λ k. let t = accepted_from p port (sym (number_by tests) ∙ ap number_in k) in (t.1, t.2, t.3) in
        (sym (number_by tests) ∙ ap number_in (was_refused (refused_by tests) (message_at p) r is refusal e full), (λ z. let n = numbers_from-1 refusal in absurd (omega arith)))
