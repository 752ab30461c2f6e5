-- The state after a call, laid over the bytes of the one before it, gives the bytes that the exported call leaves. Assumes nothing.
use mathlib.Core.Path.{◌≡◌, refl, sym, ap, ◌∙◌}
use mathlib.Core.Bool.{true, false}
use mathlib.Core.List.{List, [], ◌∷◌, ◌++◌, append_assoc}
use Prim.Native.Nat.{ℕ, suc, ◌+◌, ◌/◌, ◌%◌, ◌<◌, ◌≤◌}
use native.Mathlib.Omega.{arith}
use native.Mathlib.Numerals.{add-one}
use borrow.Author.Tests.{eqb-true}
use lib.Dec.{eqb}
use lib.ListN.{length, take, drop, set, length-drop, take-append-drop}
use lib.Seq.{sets, sets-eq, length-take-le, drop-drop, set-get_or, get_or-set_other}
use Rattle.wire.specs.octets.Octets.{byte_at, word16}
use Rattle.own.specs.declared.records.Setup.{Setup}
use Rattle.own.specs.changes.Changes.{new_port, new_txt, strings_of, revised}
use Rattle.trace.proofs.Numbers.{Bytes}
use Rattle.responder.specs.declared.State.{State}
use Rattle.responder.specs.Calls.{refusal_of}
use Rattle.responder.specs.changes.Changes.{Update, update_to, update_of, update_refusal}
use Rattle.responder.specs.Runs.{Call, updated, refusal_of_call, answer_to, state_after}
use Rattle.responder.proofs.Refusals.{call-number, refused_keeps}
use Rattle.capi_responder.specs.codec.Layout as layout
use Rattle.capi_responder.specs.codec.Layout.{state_size}
use Rattle.capi_responder.specs.codec.Parts.{strings_at, setup_at}
use Rattle.capi_responder.specs.codec.Codec.{strings_bytes, decode, with_progress, state_with}
use Rattle.capi_responder.specs.Exported.{with_data, setup_after, bytes_after}
use Rattle.capi_responder.proofs.States.{with-progress}
use Rattle.capi_responder.proofs.Renewing.{data_says, short_txt, port-bytes, txt-bytes}
use Rattle.capi_player.specs.Laid.{low16, data_laid, Lays}

-- ---- what a list holds, laid over it

module _ (b : List ℕ) (at : ℕ) where
  part_same : (n : ℕ) → at + n ≤ length b → sets b at (take n (drop at b)) ≡ b
  part_same n h =
      let m = take n (drop at b) in
      let l : length m ≡ n = length-take-le n (drop at b) (omega (arith, length-drop at b)) in
      sets-eq m b at (omega (arith, l))
      ∙ append_assoc (take at b) m (drop (at + length m) b)
      ∙ ap (λ (k : ℕ). take at b ++ (m ++ drop (at + k) b)) l
      ∙ ap (λ (r : List ℕ). take at b ++ (m ++ r)) (sym (drop-drop n at b))
      ∙ ap (λ (r : List ℕ). take at b ++ r) (take-append-drop n (drop at b))
      ∙ take-append-drop at b

  -- the two bytes of a number that stand in another list too
  word_same : Bytes b → (c : List ℕ) → byte_at c at ≡ byte_at b at → byte_at c (at + 1) ≡ byte_at b (at + 1) → sets c at (low16 (word16 b at)) ≡ c
  word_same h c e f =
      let p = h at in
      let q = h (at + 1) in
      let x : word16 b at / 256 % 256 ≡ byte_at c at = omega (arith, p, q, e) in
      let y : word16 b at % 256 ≡ byte_at c (at + 1) = omega (arith, p, q, f) in
      ap (λ (v : ℕ). set (set c at v) (suc at) (word16 b at % 256)) x
      ∙ ap (λ (l : List ℕ). set l (suc at) (word16 b at % 256)) (set-get_or c at 0)
      ∙ ap (set c (suc at)) (y ∙ ap (byte_at c) (add-one at))
      ∙ set-get_or c (suc at) 0

-- what stands before bytes that are laid over a list stays
before : (xs b : List ℕ) (at i : ℕ) → i < at → byte_at (sets b at xs) i ≡ byte_at b i
before [] b at i h = refl
before (x ∷ xs) b at i h = before xs (set b at x) (suc at) i (omega arith) ∙ get_or-set_other b at i x 0 (λ e. absurd (omega (arith, e)))

-- ---- the data of a set-up

module _ (b : List ℕ) (long : length b ≡ state_size) (bytes : Bytes b) where
  txt-same : sets (sets b layout.txt (setup_at b).txt.bytes) (layout.txt + layout.most_txt) (low16 (setup_at b).txt.len) ≡ b
  unfolding setup_at strings_at
  txt-same =
      ap (λ (l : List ℕ). sets l (layout.txt + layout.most_txt) (low16 (word16 b (layout.txt + layout.most_txt))))
      (part_same b layout.txt layout.most_txt (omega (arith, long)))
      ∙ word_same b (layout.txt + layout.most_txt) bytes b refl refl

  port-over : (c : List ℕ) → byte_at c layout.port ≡ byte_at b layout.port → byte_at c (layout.port + 1) ≡ byte_at b (layout.port + 1)
      → sets c layout.port (low16 (setup_at b).port) ≡ c
  unfolding setup_at
  port-over c e f = word_same b layout.port bytes c e f

  -- those of a state, over its own bytes
  same_laid : data_laid b (setup_at b) ≡ b
  same_laid = ap (λ (l : List ℕ). sets l layout.port (low16 (setup_at b).port)) txt-same ∙ port-over b refl refl

  -- new data
  port-laid : (port : ℕ) → port < 65536 → data_laid b (revised (setup_at b) (new_port port)) ≡ with_data b (new_port port)
  unfolding with_data
  port-laid port h = ap (λ (l : List ℕ). sets l layout.port (low16 port)) txt-same ∙ port-bytes b port h

  txt-laid : (txt : List ℕ) → length txt < 65536 → data_laid b (revised (setup_at b) (new_txt txt)) ≡ with_data b (new_txt txt)
  unfolding with_data
  txt-laid txt h =
      let c = sets b layout.txt (strings_bytes (strings_of txt)) in
      let e : sets (sets b layout.txt (strings_of txt).bytes) (layout.txt + layout.most_txt) (low16 (length txt)) ≡ c = txt-bytes b _ _ _ txt refl refl refl h in
      ap (λ (l : List ℕ). sets l layout.port (low16 (setup_at b).port)) e
      ∙ port-over c (before (strings_bytes (strings_of txt)) b layout.txt layout.port (omega arith))
      (before (strings_bytes (strings_of txt)) b layout.txt (layout.port + 1) (omega arith))

-- ---- a call

-- what the set-up of the state after a call comes to in bytes, and what these say with what changes
pub record Holds (b : List ℕ) (c : Call) : Type 0 where
  pub laid : data_laid b (state_after (decode b) c).setup ≡ setup_after b c
  pub says : state_with (setup_after b c) (state_after (decode b) c).progress ≡ state_after (decode b) c

-- an accepted update has the new data in its set-up
renewed : (s : State) (u : Update) → refusal_of_call s (updated u) ≡ 0 → (state_after s (updated u)).setup ≡ revised s.setup u.new
unfolding update_of update_to update_refusal
renewed s u g = simp g

module _ (b : List ℕ) (l : eqb (length b) state_size ≡ true) (bytes : Bytes b) where
  long : length b ≡ state_size
  long = eqb-true _ state_size l

  setup_of_lem : (decode b).setup ≡ setup_at b
  unfolding decode
  setup_of_lem = simp l

  revised-of : (u : Update) → refusal_of_call (decode b) (updated u) ≡ 0 → (state_after (decode b) (updated u)).setup ≡ revised (setup_at b) u.new
  revised-of u g = renewed (decode b) u g ∙ ap (λ (s : Setup). revised s u.new) setup_of_lem

  pub port-holds : (time room port : ℕ) → port < 65536 → let u : Update = record { time = time; room = room; new = new_port port } in
      refusal_of_call (decode b) (updated u) ≡ 0 → Holds b (updated u)
  port-holds time room port h g = record {
    laid = ap (data_laid b) (revised-of _ g) ∙ port-laid b long bytes port h;
    says = data_says b _ l g;
  }

  pub txt-holds : (time room : ℕ) (txt : List ℕ) → let u : Update = record { time = time; room = room; new = new_txt txt } in
      refusal_of_call (decode b) (updated u) ≡ 0 → Holds b (updated u)
  txt-holds time room txt g = record {
    laid = ap (data_laid b) (revised-of _ g) ∙ txt-laid b long bytes txt (short_txt (decode b) time room txt g);
    says = data_says b _ l g;
  }

  -- a call that leaves the set-up as it is
  pub same_holds : (c : Call) → setup_after b c ≡ b → (state_after (decode b) c).setup ≡ (decode b).setup → Holds b c
  same_holds c e q = record {
    laid = ap (data_laid b) (q ∙ setup_of_lem) ∙ same_laid b long bytes ∙ sym e;
    says = ap (λ (x : List ℕ). state_with x (state_after (decode b) c).progress) e ∙ with-progress b c l (state_after (decode b) c) q;
  }

-- the bytes after a call, and what they say
pub record Leaves (b : List ℕ) (c : Call) (b' : List ℕ) : Type 0 where
  pub bytes : b' ≡ bytes_after b c
  pub says : decode b' ≡ state_after (decode b) c

module _ (b : List ℕ) (c : Call) where
  pub kept : eqb (refusal_of (answer_to (decode b) c)) 0 ≡ false → Leaves b c b
  unfolding bytes_after
  kept f = record { bytes = simp f; says = sym (refused_keeps (decode b) c (rw (call-number (decode b) c) at f)).0 }

  pub taken : {b' : List ℕ} → eqb (refusal_of (answer_to (decode b) c)) 0 ≡ true → (refusal_of_call (decode b) c ≡ 0 → Holds b c)
      → Lays b (state_after (decode b) c) b' → Leaves b c b'
  unfolding bytes_after
  taken t holds lays =
      let g : refusal_of_call (decode b) c ≡ 0 = sym (call-number (decode b) c) ∙ eqb-true _ 0 t in
      let progress = (state_after (decode b) c).progress in
      record {
        bytes = simp t (lays.bytes ∙ ap (λ (x : List ℕ). with_progress x progress) (holds g).laid);
        says = lays.says ∙ ap (λ (x : List ℕ). state_with x progress) (holds g).laid ∙ (holds g).says;
      }
