-- A list that passes the tests of specs/ContentionWitness.antt meets the premises of specs/Contention.antt. Assumes nothing.
use mathlib.Core.Path.{◌≡◌, refl, sym, ◌∙◌, ap, subst}
use mathlib.Core.Logic.{◌≢◌, ◌⊎◌, inl, inr, ⊎_elim}
use mathlib.Core.Bool.{Bool, true, false, not, ◌&&◌, ◌||◌}
use mathlib.Core.Option.{Option, none, some}
use mathlib.Core.List.{List}
use Prim.Native.Nat.{ℕ, zero, suc, ◌+◌, ◌≤◌, ◌<◌}
use native.Mathlib.Omega.{arith}
use native.Mathlib.Decide.{ℕ_discrete}
use lib.ListN.{length}
use lib.Dec.{leb, ltb, eqb}
use borrow.Author.Tests.{leb-true, le-leb, ltb-true, eqb-true, not-true}
use Rattle.link.specs.Responder.{Responder, Parcel, Claim}
use Rattle.link.specs.Entries.{Entry, time_at, owner_at, is_some, runs, sent_at, heard_at, setup_of, data_at, update_at}
use Rattle.link.specs.Premises.{delivery_time}
use Rattle.link.specs.Holding.{is_and, conflicts_with, hears}
use Rattle.link.specs.Demand3.{holding_time}
use Rattle.link.specs.Contention.{Tiebreak, wants, begun, FromList, LeftAlone, Differ, probes_for, NotLater, Latest, SwitchedOn}
use Rattle.link.specs.Witness.{every, some_below, same_bytes}
use Rattle.link.specs.ContentionWitness.{hears_from, is_from_list, kept_on, not_updated, left_alone, other_data, contends, apart, not_later, latest, switched_on}
use Rattle.link.proofs.Lists.{clash, and_left, and_right, and_both, or_either, any_from_lem, is-from}
use Rattle.link.proofs.States.{passed}
use Rattle.link.proofs.Order.{setup_in_list, in_list_lem}
use Rattle.link.proofs.Witness.{below, if_so, bytes_same, same_bytes_lem}
use Rattle.link.proofs.Last.{wanted_setup}
use Rattle.link.proofs.Alone.{Heard, heard-by}

-- some number below n, which is below n
some_below_lem : (n : ℕ) (f : ℕ → Bool) → some_below n f ≡ true → (i : ℕ) × (i < n) × (f i ≡ true)
unfolding some_below
some_below_lem zero f h = clash (cc)
some_below_lem (suc n) f h = go (or_either (some_below n f) (f n) h) (some_below_lem n f)
  where
    go : (some_below n f ≡ true) ⊎ (f n ≡ true) → (some_below n f ≡ true → (i : ℕ) × (i < n) × (f i ≡ true)) → (i : ℕ) × (i < suc n) × (f i ≡ true)
    go (inl e) ih = let r = ih e in (r.0, omega (arith, r.1), r.2)
    go (inr e) ih = (n, omega arith, e)

module _ (D : Responder) (es : List (Entry D)) where
  open D use {Setup, State, Update}

  from-entry : (since n i : ℕ) → since ≤ i → i < n → hears_from D es n i ≡ true → FromList D es since n
  unfolding hears_from
  from-entry since n i a b h =
      let q = any_from_lem (λ (p : Parcel). is_and (same_bytes p.bytes) (heard_at D es n)) (sent_at D es i) h in
      let p = is-from (same_bytes q.0.bytes) (heard_at D es n) q.2 in
      record {
        at = i;
        since_then = a;
        before = b;
        parcel = q.0;
        sent = q.1;
        heard = p.1 ∙ ap some (bytes_same q.0.bytes p.0 p.2);
      }

  from_list_lem : (since n : ℕ) → is_from_list D es since n ≡ true → FromList D es since n
  unfolding is_from_list
  from_list_lem since n h =
      let i = some_below_lem n (λ (j : ℕ). leb since j && hears_from D es n j) h in
      from-entry since n i.0 (leb-true since i.0 (and_left (leb since i.0) (hears_from D es n i.0) i.2)) i.1
      (and_right (leb since i.0) (hears_from D es n i.0) i.2)

  module _ (k : Claim) (name : List ℕ) (since until : ℕ) (h : left_alone D es k name since until ≡ true) where
    test : ℕ → Bool
    test n = not (wants D es k name (owner_at D es n)) || (kept_on D es k since n && not_updated D es since n)

    -- what is asked of an entry of one that wants the name
    asked : (d n : ℕ) → wants D es k name d ≡ true → n < until → owner_at D es n ≡ d → (kept_on D es k since n ≡ true) × (not_updated D es since n ≡ true)
    unfolding left_alone
    asked d n w l o =
        let t : (kept_on D es k since n && not_updated D es since n) ≡ true =
        if_so (wants D es k name (owner_at D es n)) (kept_on D es k since n && not_updated D es since n)
        (below until (λ (m : ℕ). not (wants D es k name (owner_at D es m)) || (kept_on D es k since m && not_updated D es since m))
        (and_right (ltb since until && leb until (length es)) _ h) n l)
        (ap (wants D es k name) o ∙ w)
        in
        (and_left (kept_on D es k since n) (not_updated D es since n) t, and_right (kept_on D es k since n) (not_updated D es since n) t)

    abbrev goes_on_lem : ℕ → Bool
    goes_on_lem n = not (runs D es (owner_at D es n) n) || runs D es (owner_at D es n) (suc n)

    abbrev from-them : ℕ → Bool
    from-them n = not (hears D es (owner_at D es n) (λ s. conflicts_with D s k) n) || is_from_list D es since n

    kept_on_lem : (d n : ℕ) → wants D es k name d ≡ true → since ≤ n → n < until → owner_at D es n ≡ d → (goes_on_lem n && from-them n) ≡ true
    unfolding kept_on
    kept_on_lem d n w a b o = if_so (leb since n) (goes_on_lem n && from-them n) (asked d n w b o).0 (le-leb since n a)

    running : (d n : ℕ) → wants D es k name d ≡ true → since ≤ n → n < until → runs D es d n ≡ true → runs D es d (suc n) ≡ true
    running d n w a b r = go (ℕ_discrete (owner_at D es n) d)
      where
        go : Dec (owner_at D es n ≡ d) → runs D es d (suc n) ≡ true
        go (yes o) =
            subst (λ (i : ℕ). runs D es i (suc n) ≡ true) o
            (if_so (runs D es (owner_at D es n) n) (runs D es (owner_at D es n) (suc n)) (and_left (goes_on_lem n) (from-them n) (kept_on_lem d n w a b o))
            (ap (λ (i : ℕ). runs D es i n) o ∙ r))
        go (no o) = ap (λ (s : Option State). is_some s) (passed D es d n o) ∙ r

    unchanged :
        (d n : ℕ) → wants D es k name d ≡ true → n < until → time_at D es since ≤ time_at D es n + delivery_time → owner_at D es n ≡ d → update_at D es n ≡ none
    unfolding not_updated
    unchanged d n w l t o =
        go (update_at D es n)
        (not-true (is_some (update_at D es n))
        (if_so (leb (time_at D es since) (time_at D es n + delivery_time)) (not (is_some (update_at D es n))) (asked d n w l o).1
        (le-leb (time_at D es since) (time_at D es n + delivery_time) t)))
      where
        go : (u : Option Update) → is_some u ≡ false → u ≡ none
        go none e = refl
        go (some u) e = clash (cc)

    responses :
        (d n : ℕ) → wants D es k name d ≡ true → since ≤ n → n < until → hears D es d (λ s. conflicts_with D s k) n ≡ true → FromList D es since n
    responses d n w a b c =
        let o : Heard D es d (λ s. conflicts_with D s k) n = heard-by D es d (λ s. conflicts_with D s k) n c in
        from_list_lem since n
        (if_so (hears D es (owner_at D es n) (λ s. conflicts_with D s k) n) (is_from_list D es since n)
        (and_right (goes_on_lem n) (from-them n) (kept_on_lem d n w a b o.whose)) (ap (λ (i : ℕ). hears D es i (λ s. conflicts_with D s k) n) o.whose ∙ c))

    pub left_alone_lem : LeftAlone D es k name since until
    unfolding left_alone
    left_alone_lem =
        let bounds = and_left (ltb since until && leb until (length es)) _ h in
        record {
          non_empty = ltb-true since until (and_left (ltb since until) (leb until (length es)) bounds);
          in_list = leb-true until (length es) (and_right (ltb since until) (leb until (length es)) bounds);
          running = running;
          unchanged = unchanged;
          from_list = responses;
        }

  -- data that differ in a type of both
  differ : (types : List ℕ) (s t : Setup) (k : Claim) → other_data D types s t k ≡ true → Differ D s t k
  unfolding other_data
  differ types s t k h =
      let y =
      any_from_lem (λ (type : ℕ). is_and (λ (a : List ℕ). is_and (λ (b : List ℕ). not (same_bytes a b)) (D.rdata t k type)) (D.rdata s k type)) types h
      in
      let a = is-from (λ (c : List ℕ). is_and (λ (b : List ℕ). not (same_bytes c b)) (D.rdata t k y.0)) (D.rdata s k y.0) y.2 in
      let b = is-from (λ (c : List ℕ). not (same_bytes a.0 c)) (D.rdata t k y.0) a.2 in
      record {
        type = y.0;
        one_data = a.0;
        other_data = b.0;
        one_carries = a.1;
        other_carries = b.1;
        different = λ e. clash (let z : false ≡ true = sym (not-true (same_bytes a.0 b.0) b.2) ∙ same_bytes_lem a.0 b.0 e in cc);
      }

  module _ (T : Tiebreak D) (k : Claim) where
    not-later : (s : Setup) (n : ℕ) → not_later D T es k s n ≡ true → NotLater D T es k s n
    unfolding not_later from-entry
    not-later s n h =
        let i = some_below_lem n (λ (j : ℕ). hears_from D es n j && is_and (λ (t : Setup). not (T.later t s k)) (data_at D es (owner_at D es j) (suc j))) h in
        let ranks : Bool = is_and (λ (t : Setup). not (T.later t s k)) (data_at D es (owner_at D es i.0) (suc i.0)) in
        let t =
        is-from (λ (t : Setup). not (T.later t s k)) (data_at D es (owner_at D es i.0) (suc i.0)) (and_right (hears_from D es n i.0) ranks i.2)
        in
        record {
          from = from-entry 0 n i.0 (omega arith) i.1 (and_left (hears_from D es n i.0) ranks i.2);
          theirs = t.0;
          has = t.1;
          not_later = not-true (T.later t.0 s k) t.2;
        }

    pub is-latest : (x : ℕ) → latest D T es k x ≡ true → Latest D T es k x
    unfolding latest
    is-latest x h =
        let s = is-from (λ (r : Setup). every (length es) (λ n. not (asks n) || not_later D T es k r n)) (setup_of D es x) h in
        record {
          setup = s.0;
          has = s.1;
          not_later = λ n t c.
              not-later s.0 n
              (if_so (asks n) (not_later D T es k s.0 n)
              (below (length es) (λ m. not (asks m) || not_later D T es k s.0 m) s.2 n
              (let o : Heard D es x (λ r. probes_for D T r k) n = heard-by D es x (λ r. probes_for D T r k) n c in in_list_lem D es n o.packet o.heard))
              (and_both (leb (time_at D es n) (time_at D es x + holding_time)) (hears D es x (λ r. probes_for D T r k) n)
              (le-leb (time_at D es n) (time_at D es x + holding_time) t) c));
        }
      where
        asks : ℕ → Bool
        asks n = leb (time_at D es n) (time_at D es x + holding_time) && hears D es x (λ r. probes_for D T r k) n

    module _ (types name : List ℕ) (n until one : ℕ) (h : switched_on D T types es k name n until one ≡ true) where
      abbrev probing : ℕ → Bool
      probing m = wants D es k name (owner_at D es m) && hears D es (owner_at D es m) (λ s. probes_for D T s k) m

      abbrev part1 : Bool
      part1 = every until (λ m. not (probing m) || is_from_list D es 0 m)

      abbrev unlike : ℕ → ℕ → Bool
      unlike d e = not (contends D es k name d && contends D es k name e) || (eqb d e || apart D types es k d e)

      abbrev part2 : Bool
      part2 = every (length es) (λ d. every (length es) (λ e. unlike d e))

      abbrev part3 : Bool
      part3 = contends D es k name one && ltb one n

      abbrev part4 : Bool
      part4 = leb n until && ltb n (length es)

      abbrev part5 : Bool
      part5 = every n (λ d. not (contends D es k name d) || ltb (time_at D es d + holding_time) (time_at D es n))

      parts : (left_alone D es k name 0 until ≡ true) × (part1 ≡ true) × (part2 ≡ true) × (part3 ≡ true) × (part4 ≡ true) × (part5 ≡ true)
      unfolding switched_on
      parts =
          let r1 = and_right (left_alone D es k name 0 until) (part1 && (part2 && (part3 && (part4 && part5)))) h in
          let r2 = and_right part1 (part2 && (part3 && (part4 && part5))) r1 in
          let r3 = and_right part2 (part3 && (part4 && part5)) r2 in
          let r4 = and_right part3 (part4 && part5) r3 in (
            and_left (left_alone D es k name 0 until) (part1 && (part2 && (part3 && (part4 && part5)))) h,
            and_left part1 (part2 && (part3 && (part4 && part5))) r1,
            and_left part2 (part3 && (part4 && part5)) r2,
            and_left part3 (part4 && part5) r3,
            and_left part4 part5 r4,
            and_right part4 part5 r4,
          )

      probes : (d m : ℕ) → wants D es k name d ≡ true → m < until → hears D es d (λ s. probes_for D T s k) m ≡ true → FromList D es 0 m
      probes d m w l c =
          let o : Heard D es d (λ s. probes_for D T s k) m = heard-by D es d (λ s. probes_for D T s k) m c in
          from_list_lem 0 m
          (if_so (probing m) (is_from_list D es 0 m) (below until (λ (i : ℕ). not (probing i) || is_from_list D es 0 i) parts.1 m l)
          (and_both (wants D es k name (owner_at D es m)) (hears D es (owner_at D es m) (λ s. probes_for D T s k) m) (ap (wants D es k name) o.whose ∙ w)
          (ap (λ (i : ℕ). hears D es i (λ s. probes_for D T s k) m) o.whose ∙ c)))

      in_the_list : (d : ℕ) → wants D es k name d ≡ true → d < length es
      in_the_list d w = let s = wanted_setup D es k name d w in setup_in_list D es d s.0 s.1

      different :
          (d e : ℕ) (s t : Setup) → wants D es k name d ≡ true → wants D es k name e ≡ true → d ≢ e → begun D es d ≡ true → begun D es e ≡ true
          → setup_of D es d ≡ some s → setup_of D es e ≡ some t → Differ D s t k
      unfolding apart
      different d e s t v w f b c p q =
          let two : (eqb d e || apart D types es k d e) ≡ true =
          if_so (contends D es k name d && contends D es k name e) (eqb d e || apart D types es k d e)
          (below (length es) (λ (j : ℕ). unlike d j)
          (below (length es) (λ (i : ℕ). every (length es) (λ (j : ℕ). unlike i j)) parts.2 d (in_the_list d v)) e (in_the_list e w))
          (and_both (contends D es k name d) (contends D es k name e) (and_both (wants D es k name d) (begun D es d) v b)
          (and_both (wants D es k name e) (begun D es e) w c))
          in
          ⊎_elim (λ (z : eqb d e ≡ true). absurd (f (eqb-true d e z))) (λ (z : apart D types es k d e ≡ true). set z)
          (or_either (eqb d e) (apart D types es k d e) two)
        where
          set : is_and (λ (r : Setup). is_and (λ (u : Setup). other_data D types r u k) (setup_of D es e)) (setup_of D es d) ≡ true → Differ D s t k
          set z =
              let r = is-from (λ (r : Setup). is_and (λ (u : Setup). other_data D types r u k) (setup_of D es e)) (setup_of D es d) z in
              let u = is-from (λ (u : Setup). other_data D types r.0 u k) (setup_of D es e) r.2 in
              let y : some r.0 ≡ some s = sym r.1 ∙ p in
              let x : some u.0 ≡ some t = sym u.1 ∙ q in
              let i : r.0 ≡ s = cc in
              let j : u.0 ≡ t = cc in
              differ types s t k (ap (λ (a : Setup). other_data D types a t k) (sym i) ∙ ap (λ (a : Setup). other_data D types r.0 a k) (sym j) ∙ u.2)

      pub switched_on_lem : SwitchedOn D T es k name n until
      switched_on_lem =
          let its = and_left (contends D es k name one) (ltb one n) parts.3 in
          record {
            alone = left_alone_lem k name 0 until parts.0;
            probes = probes;
            different = different;
            one = one;
            wanted = and_left (wants D es k name one) (begun D es one) its;
            begins = and_right (wants D es k name one) (begun D es one) its;
            started = ltb-true one n (and_right (contends D es k name one) (ltb one n) parts.3);
            by = leb-true n until (and_left (leb n until) (ltb n (length es)) parts.4);
            in_list = ltb-true n (length es) (and_right (leb n until) (ltb n (length es)) parts.4);
            all = λ d l w b.
                ltb-true (time_at D es d + holding_time) (time_at D es n)
                (if_so (contends D es k name d) (ltb (time_at D es d + holding_time) (time_at D es n))
                (below n (λ (i : ℕ). not (contends D es k name i) || ltb (time_at D es i + holding_time) (time_at D es n)) parts.5 d l)
                (and_both (wants D es k name d) (begun D es d) w b));
          }
