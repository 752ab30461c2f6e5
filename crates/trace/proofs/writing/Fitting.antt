-- What is known of an event that fits its fields, and of one that does not. Assumes nothing.
use mathlib.Core.Path.{◌≡◌, refl, ap}
use mathlib.Core.Bool.{Bool, true, false, cond, ◌&&◌}
use Prim.Native.Nat.{ℕ, ◌+◌, ◌*◌, ◌≤◌}
use native.Mathlib.Omega.{arith}
use borrow.Author.Tests.{leb-true}
use lib.Dec.{leb}
use Rattle.std.specs.Prelude.{Result, Ok, Err}
use Rattle.claims.specs.declared.holds.Address.{Address}
use Rattle.trace.specs.reading.Reading.{is_usual, pieces_of}
use Rattle.trace.specs.writing.Sizes.{unfit, fits16, fits8, source_size, packet_size, claim_size, size_for}
use Rattle.trace.specs.declared.reading.Event.{Event}
use Rattle.trace.specs.declared.reading.Event.TheVariants as event
use Rattle.trace.specs.declared.writing.Unfit.{Unfit}

-- two different answers
pub not-unfit : {A : Type 0} {u : Unfit} {n : ℕ} → ◌≡◌ {A = Result ℕ Unfit} (Err u) (Ok n) → A
not-unfit e = cc

not-fit : {A : Type 0} {u : Unfit} {n : ℕ} → ◌≡◌ {A = Result ℕ Unfit} (Ok n) (Err u) → A
not-fit e = cc

pub same_size : {m n : ℕ} → ◌≡◌ {A = Result ℕ Unfit} (Ok m) (Ok n) → m ≡ n
same_size e = cc

same_offset : {u v : Unfit} → ◌≡◌ {A = Result ℕ Unfit} (Err u) (Err v) → u.behind ≡ v.behind
same_offset {u} {v} e = ap (λ (x : Unfit). x.behind) (same e)
  where
    same : ◌≡◌ {A = Result ℕ Unfit} (Err u) (Err v) → u ≡ v
    same e = cc

-- of a packet
pub record PacketFits (port draw len : ℕ) : Type 0 where
  pub port-fits : port ≤ 65535
  pub draw-fits : draw ≤ 255
  pub len_fits : len ≤ 65535

module _ (s p draw len : ℕ) where
  with-tests : (a : Bool) → leb p 65535 ≡ a → (b : Bool) → leb draw 255 ≡ b → (c : Bool) → leb len 65535 ≡ c → (x n : ℕ)
      → cond (a && (b && c)) (Ok x) (unfit s) ≡ Ok n → PacketFits p draw len × (x ≡ n)
  with-tests true ea true eb true ec x n e =
      (record { port-fits = leb-true p 65535 ea; draw-fits = leb-true draw 255 eb; len_fits = leb-true len 65535 ec }, same_size e)
  with-tests true ea true eb false ec x n e = not-unfit e
  with-tests true ea false eb c ec x n e = not-unfit e
  with-tests false ea b eb c ec x n e = not-unfit e

  pub packet_fits : (n : ℕ) → packet_size s p draw len ≡ Ok n → PacketFits p draw len × (s + 14 + pieces_of len * 17 ≡ n)
  packet_fits n e = with-tests (fits16 p) refl (fits8 draw) refl (fits16 len) refl (s + 14 + pieces_of len * 17) n e

  unfit_by : (b : Bool) (x : ℕ) (u : Unfit) → cond b (Ok x) (unfit s) ≡ Err u → s ≡ u.behind
  unfit_by true x u e = not-fit e
  unfit_by false x u e = same_offset e

  pub packet_unfit : (u : Unfit) → packet_size s p draw len ≡ Err u → s ≡ u.behind
  packet_unfit u e = unfit_by (fits16 p && (fits8 draw && fits16 len)) (s + 14 + pieces_of len * 17) u e

-- of one number of 16 bits, or of the hold draw
module _ (v : ℕ) where
  by-test : (b : Bool) → leb v 65535 ≡ b → (x : Result ℕ Unfit) (n : ℕ) → cond b x (unfit 0) ≡ Ok n → (v ≤ 65535) × (x ≡ Ok n)
  by-test true eb x n e = (leb-true v 65535 eb, e)
  by-test false eb x n e = not-unfit e

  pub number_fits : (x : Result ℕ Unfit) (n : ℕ) → cond (fits16 v) x (unfit 0) ≡ Ok n → (v ≤ 65535) × (x ≡ Ok n)
  number_fits x n e = by-test (fits16 v) refl x n e

  near_by : (b : Bool) (x : Result ℕ Unfit) (u : Unfit) → (x ≡ Err u → u.behind ≤ 19) → cond b x (unfit 0) ≡ Err u → u.behind ≤ 19
  near_by true x u f e = f e
  near_by false x u f e = let z = same_offset e in omega arith

-- of a claim
module _ (k state : ℕ) where
  claim_by : (a : Bool) → leb k 1 ≡ a → (b : Bool) → leb state 4 ≡ b → (n : ℕ) → cond (a && b) (Ok 11) (unfit 0) ≡ Ok n
      → (k ≤ 1) × (state ≤ 4) × (11 ≡ n)
  claim_by true ea true eb n e = (leb-true k 1 ea, leb-true state 4 eb, same_size e)
  claim_by true ea false eb n e = not-unfit e
  claim_by false ea b eb n e = not-unfit e

  pub claim_fits : (n : ℕ) → claim_size k state ≡ Ok n → (k ≤ 1) × (state ≤ 4) × (11 ≡ n)
  claim_fits n e = claim_by (leb k 1) refl (leb state 4) refl n e

-- the record that a value does not fit lies near the event's start
source_least : (b : Bool) → cond b 0 19 ≤ 19
source_least true = omega arith
source_least false = omega arith

claim_near : (b : Bool) (u : Unfit) → cond b (Ok 11) (unfit 0) ≡ Err u → u.behind ≤ 19
claim_near true u e = not-fit e
claim_near false u e = let z = same_offset e in omega arith

pub unfit_near : (e : Event) (len : ℕ) (u : Unfit) → size_for e len ≡ Err u → u.behind ≤ 19
unfit_near (event.Tick time) len u e = not-fit e
unfit_near (event.Packet time from p draw hold) len u e =
    near_by hold (fits16 hold) _ u (λ q. omega (arith, packet_unfit (source_size from hold) p draw len u q, source_least (is_usual from hold))) e
unfit_near (event.Claim last k state) len u e = claim_near (leb k 1 && leb state 4) u e
unfit_near (event.Stop time) len u e = not-fit e
unfit_near (event.Port time p) len u e = near_by p (fits16 p) _ u (λ q. not-fit q) e
unfit_near (event.Txt time) len u e = near_by len (fits16 len) _ u (λ q. not-fit q) e

-- the size of a source, by its test
module _ (from : Address) (hold : ℕ) where
  pub usual_size : is_usual from hold ≡ true → source_size from hold ≡ 0
  usual_size e = simp e

  pub sourced_size : is_usual from hold ≡ false → source_size from hold ≡ 19
  sourced_size e = simp e
