-- The bytes of a state with other data say the set-up with those data. Assumes nothing.
use mathlib.Core.Path.{◌≡◌, refl, sym, ap, ◌∙◌}
use mathlib.Core.Bool.{Bool, true, false, not, ◌&&◌}
use mathlib.Mathlib.Data.Bool.Basic.{or-eq-false-eq-eq-false-and-eq-false as neither, and-eq-true-eq-eq-true-and-eq-true as both}
use mathlib.Core.List.{List, [], ◌∷◌, ◌++◌, append_assoc}
use Prim.Native.Nat.{ℕ, ◌+◌, ◌-◌, ◌/◌, ◌%◌, ◌<◌, ◌≤◌}
use native.Mathlib.Omega.{arith}
use borrow.Author.Tests.{eq-eqb, eqb-true, leb-true}
use lib.Dec.{leb, eqb}
use lib.ListN.{length, take, drop, get_or, replicate, take-append-drop, length-append, length-replicate}
use lib.Seq.{sets, sets-eq, length-sets, length-take-le, drop_at, drop-drop, get_or-drop}
use Rattle.wire.specs.octets.Octets.{byte_at, word16}
use Rattle.wire.proofs.octets.Sets.{sets-append}
use Rattle.own.specs.records.Setups.{valid_setup}
use Rattle.own.specs.changes.Changes.{NewData, new_port, new_txt, strings_of, revised, valid_data}
use Rattle.own.proofs.changes.Revised.{revised-valid}
use Rattle.wire.specs.rdata.Rdata.{strings_fill}
use Rattle.claims.specs.Refusals.{wrong_start_draw}
use Rattle.responder.specs.Refusals.{wrong_state}
use Rattle.responder.proofs.changes.Accepted.{update-accepted}
use Rattle.responder.specs.declared.State.{State}
use Rattle.responder.specs.changes.Changes.{Update, update_to, update_of, update_refusal}
use Rattle.responder.specs.Runs.{updated, refusal_of_call, state_after}
use Rattle.capi_responder.specs.codec.Layout as layout
use Rattle.capi_responder.specs.codec.Parts.{part_at, label_at, service_at, strings_at, setup_at}
use Rattle.capi_responder.specs.codec.Codec.{bytes16, strings_bytes, decode, state_with}
use Rattle.capi_responder.specs.Exported.{with_data}
use Rattle.capi_responder.proofs.codec.Stands.{Stands, word16-read}
use Rattle.capi_responder.proofs.codec.Front.{part_front, word16-front, label-front, service-front}
use Rattle.capi_responder.proofs.codec.Round.{strings-read}

-- bytes laid over a part of a buffer: what stands in front of it and behind it stays
module _ (b mid : List ℕ) (at : ℕ) (fits : at + length mid ≤ length b) where
  abbrev c : List ℕ
  c = sets b at mid

  as_parts : c ≡ take at b ++ (mid ++ drop (at + length mid) b)
  as_parts = sets-eq mid b at fits ∙ append_assoc (take at b) mid (drop (at + length mid) b)

  taken : length (take at b) ≡ at
  taken = length-take-le at b (omega arith)

  -- what is read in front of it
  front : {A : Type 0} (reads : List ℕ → A) → ((q : List ℕ) → reads (take at b ++ q) ≡ reads (take at b)) → reads c ≡ reads b
  front reads h =
      ap reads as_parts ∙ h (mid ++ drop (at + length mid) b) ∙ sym (h (drop at b)) ∙ ap reads (take-append-drop at b)

  here : drop at c ≡ mid ++ drop (at + length mid) b
  here = ap (drop at) as_parts ∙ drop_at (take at b) (mid ++ drop (at + length mid) b) at taken

  stands : Stands c at mid
  stands = record { rest = drop (at + length mid) b; is = here }

  behind : drop (at + length mid) c ≡ drop (at + length mid) b
  behind = sym (drop-drop (length mid) at c) ∙ ap (drop (length mid)) here ∙ drop_at mid (drop (at + length mid) b) (length mid) refl

  -- what is read behind it
  module _ (from : ℕ) (h : at + length mid ≤ from) where
    drop-behind : drop from c ≡ drop from b
    drop-behind =
        let k : (at + length mid) + (from - (at + length mid)) ≡ from = omega arith in
        ap (λ (i : ℕ). drop i c) (sym k) ∙ sym (drop-drop (from - (at + length mid)) (at + length mid) c)
        ∙ ap (drop (from - (at + length mid))) behind
        ∙ drop-drop (from - (at + length mid)) (at + length mid) b ∙ ap (λ (i : ℕ). drop i b) k

    part_behind : (n : ℕ) → part_at c from n ≡ part_at b from n
    part_behind n = ap (take n) drop-behind

    byte_behind : byte_at c from ≡ byte_at b from
    byte_behind =
        let k : from + 0 ≡ from = omega arith in
        ap (byte_at c) (sym k) ∙ sym (get_or-drop from c 0 0) ∙ ap (λ (l : List ℕ). get_or l 0 0) drop-behind ∙ get_or-drop from b 0 0 ∙ ap (byte_at b) k

  word16-behind : (from : ℕ) → at + length mid ≤ from → word16 c from ≡ word16 b from
  word16-behind from h = omega (arith, byte_behind from h, byte_behind (from + 1) (omega arith))

  strings-behind : (from : ℕ) → at + length mid ≤ from → strings_at c from ≡ strings_at b from
  unfolding strings_at
  strings-behind from h = λ i. record { bytes = part_behind from h layout.most_txt i; len = word16-behind (from + layout.most_txt) (omega arith) i }

strings-long : (txt : List ℕ) → length (strings_of txt).bytes ≡ layout.most_txt
strings-long txt = length-sets (replicate 400 0) 0 txt ∙ length-replicate {A = ℕ} 400 0

module _ (b : List ℕ) (long : length b ≡ layout.state_size) where
  port-says : (port : ℕ) → setup_at (with_data b (new_port port)) ≡ revised (setup_at b) (new_port port)
  unfolding setup_at with_data
  port-says port =
      let m : length (bytes16 port) ≡ 2 = refl in
      let f : layout.port + length (bytes16 port) ≤ length b = omega (arith, m) in
      let p = take layout.port b in
      let t : length p ≡ layout.port = taken b (bytes16 port) layout.port f in
      λ i. record {
        instance = front b (bytes16 port) layout.port f (λ x. label_at x layout.instance) (λ q. label-front p q layout.instance (omega (arith, t))) i;
        service = front b (bytes16 port) layout.port f (λ x. service_at x layout.service) (λ q. service-front p q layout.service (omega (arith, t))) i;
        protocol = front b (bytes16 port) layout.port f (λ x. part_at x layout.protocol layout.protocol_size) (λ q. part_front p q layout.protocol layout.protocol_size (omega (arith, t))) i;
        host = front b (bytes16 port) layout.port f (λ x. label_at x layout.host) (λ q. label-front p q layout.host (omega (arith, t))) i;
        domain = front b (bytes16 port) layout.port f (λ x. part_at x layout.domain layout.domain_size) (λ q. part_front p q layout.domain layout.domain_size (omega (arith, t))) i;
        port = word16-read port (stands b (bytes16 port) layout.port f) i;
        txt = strings-behind b (bytes16 port) layout.port f layout.txt (omega (arith, m)) i;
        a = part_behind b (bytes16 port) layout.port f layout.a (omega (arith, m)) layout.a_size i;
        hasaaaa = ap (λ (v : ℕ). eqb (v % 2) 1) (byte_behind b (bytes16 port) layout.port f layout.hasaaaa (omega (arith, m))) i;
        aaaa = part_behind b (bytes16 port) layout.port f layout.aaaa (omega (arith, m)) layout.aaaa_size i;
      }

  txt-says : (txt : List ℕ) → setup_at (with_data b (new_txt txt)) ≡ revised (setup_at b) (new_txt txt)
  unfolding setup_at with_data
  txt-says txt =
      let mid = strings_bytes (strings_of txt) in
      let m : length mid ≡ 402 = omega (arith, length-append (strings_of txt).bytes (bytes16 (length txt)), strings-long txt) in
      let f : layout.txt + length mid ≤ length b = omega (arith, m) in
      let p = take layout.txt b in
      let t : length p ≡ layout.txt = taken b mid layout.txt f in
      λ i. record {
        instance = front b mid layout.txt f (λ x. label_at x layout.instance) (λ q. label-front p q layout.instance (omega (arith, t))) i;
        service = front b mid layout.txt f (λ x. service_at x layout.service) (λ q. service-front p q layout.service (omega (arith, t))) i;
        protocol = front b mid layout.txt f (λ x. part_at x layout.protocol layout.protocol_size) (λ q. part_front p q layout.protocol layout.protocol_size (omega (arith, t))) i;
        host = front b mid layout.txt f (λ x. label_at x layout.host) (λ q. label-front p q layout.host (omega (arith, t))) i;
        domain = front b mid layout.txt f (λ x. part_at x layout.domain layout.domain_size) (λ q. part_front p q layout.domain layout.domain_size (omega (arith, t))) i;
        port = front b mid layout.txt f (λ x. word16 x layout.port) (λ q. word16-front p q layout.port (omega (arith, t))) i;
        txt = strings-read (strings_of txt) (strings-long txt) (stands b mid layout.txt f) i;
        a = part_behind b mid layout.txt f layout.a (omega (arith, m)) layout.a_size i;
        hasaaaa = ap (λ (v : ℕ). eqb (v % 2) 1) (byte_behind b mid layout.txt f layout.hasaaaa (omega (arith, m))) i;
        aaaa = part_behind b mid layout.txt f layout.aaaa (omega (arith, m)) layout.aaaa_size i;
      }

  setup_says : (new : NewData) → setup_at (with_data b new) ≡ revised (setup_at b) new
  setup_says (new_port port) = port-says port
  setup_says (new_txt txt) = txt-says txt

  data_long : (new : NewData) → length (with_data b new) ≡ layout.state_size
  unfolding with_data
  data_long (new_port port) = length-sets b layout.port (bytes16 port) ∙ long
  data_long (new_txt txt) = length-sets b layout.txt (strings_bytes (strings_of txt)) ∙ long

-- an accepted update
pub data_says : (b : List ℕ) (u : Update) → eqb (length b) layout.state_size ≡ true → refusal_of_call (decode b) (updated u) ≡ 0
    → state_with (with_data b u.new) (state_after (decode b) (updated u)).progress ≡ state_after (decode b) (updated u)
unfolding state_with decode update_of update_to update_refusal
data_says b u l g =
    let long : length b ≡ layout.state_size = eqb-true _ layout.state_size l in
    let n : eqb (length (with_data b u.new)) layout.state_size ≡ true = eq-eqb _ layout.state_size (data_long b long u.new) in
    let s : setup_at (with_data b u.new) ≡ revised (setup_at b) u.new = setup_says b long u.new in
    let z : _ = rw l at g in
    simp (l, n, z, s)

-- the TXT of an accepted update is short, so that its length fits two bytes
pub short_txt : (s : State) (time room : ℕ) (txt : List ℕ) → update_refusal s (record { time = time; room = room; new = new_txt txt }) ≡ 0 → length txt < 65536
unfolding update_refusal valid_data wrong_state
short_txt s time room txt h =
    let p = update-accepted s time room (revised s.setup (new_txt txt)) h in
    let v : valid_setup s.setup ≡ true = is-valid (valid_setup s.setup) ((neither (not (valid_setup s.setup)) (wrong_start_draw s.progress.draw)).0 p.right).0 in
    let d : (leb 1 (length txt) && (leb (length txt) 400 && strings_fill 0 txt)) ≡ true = sym (revised-valid s.setup (new_txt txt) v) ∙ p.valid in
    let e = (both (leb 1 (length txt)) (leb (length txt) 400 && strings_fill 0 txt)).0 d in
    let l : length txt ≤ 400 = leb-true _ _ ((both (leb (length txt) 400) (strings_fill 0 txt)).0 e.1).0 in
    omega arith
  where
    is-valid : (x : Bool) → not x ≡ false → x ≡ true
    is-valid true e = refl
    is-valid false e = sym e

-- ---- what is written of new data

pub port-bytes : (b : List ℕ) (port : ℕ) → port < 65536 → sets b layout.port (port / 256 % 256 ∷ port % 256 ∷ []) ≡ sets b layout.port (bytes16 port)
port-bytes b port h = let e : port / 256 % 256 ≡ port / 256 = omega arith in ap (λ (x : ℕ). sets b layout.port (x ∷ port % 256 ∷ [])) e

pub txt-bytes : (b b₁ b₂ strings txt : List ℕ) → strings ≡ sets (replicate 400 0) 0 txt → b₁ ≡ sets b layout.txt strings
    → b₂ ≡ sets b₁ (layout.txt + 400) (length txt / 256 % 256 ∷ length txt % 256 ∷ [])
    → length txt < 65536 → b₂ ≡ sets b layout.txt (strings_bytes (strings_of txt))
txt-bytes b b₁ b₂ strings txt e f g h =
    let k : length txt / 256 % 256 ≡ length txt / 256 = omega arith in
    let n : layout.txt + 400 ≡ layout.txt + length strings = ap (λ (x : ℕ). layout.txt + x) (sym (ap length e ∙ strings-long txt)) in
    g ∙ ap (λ (x : ℕ). sets b₁ (layout.txt + 400) (x ∷ length txt % 256 ∷ [])) k
    ∙ ap (λ (x : List ℕ). sets x (layout.txt + 400) (bytes16 (length txt))) f
    ∙ ap (λ (x : ℕ). sets (sets b layout.txt strings) x (bytes16 (length txt))) n
    ∙ sets-append b layout.txt strings (bytes16 (length txt))
    ∙ ap (λ (x : List ℕ). sets b layout.txt (x ++ bytes16 (length txt))) e
