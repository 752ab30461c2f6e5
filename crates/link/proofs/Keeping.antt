-- While the responders that want a name are left alone, a holder keeps it, and just one holds it. Assumes nothing.
use mathlib.Core.Path.{◌≡◌, refl, sym, ◌∙◌, ap, subst}
use mathlib.Core.Logic.{◌≢◌, ⊎_elim}
use mathlib.Core.Bool.{Bool, true, false, not, ◌&&◌, ◌||◌}
use mathlib.Core.Option.{none, some}
use mathlib.Core.List.{List}
use Prim.Native.Nat.{ℕ, zero, suc, ◌≤◌, ◌<◌}
use native.Mathlib.Omega.{arith}
use native.Mathlib.Decide.{dec_le}
use Rattle.link.specs.Responder.{Responder, Claim}
use Rattle.link.specs.Entries.{Entry, owner_at, runs, data_at, update_at}
use Rattle.link.specs.Premises.{Premises}
use Rattle.link.specs.Holding.{conflicts_with, writes, hears, holds}
use Rattle.link.specs.Demand3.{TwoHolders, JustUpdated}
use Rattle.link.specs.Laws.{Rules, Lawful}
use Rattle.link.specs.Contention.{Tiebreak, wants, FromList, LeftAlone, Differ}
use Rattle.link.specs.Candid.{Candid}
use Rattle.link.proofs.Lists.{clash, and_both, or_right}
use Rattle.link.proofs.From.{from_first}
use Rattle.link.proofs.Order.{in_order_lem}
use Rattle.link.proofs.Unique.{unique}
use Rattle.link.proofs.Alone.{data_kept, holder-runs, wanted_name, wants_it, Sender, sender_of}

module _
    (D : Responder) (R : Rules D) (L : Lawful D R) (T : Tiebreak D) (C : Candid D R T) (es : List (Entry D)) (P : Premises D es) (k : Claim)
    (name : List ℕ) (since until : ℕ) (A : LeftAlone D es k name since until)
  where
    open D use {Setup}

    -- no update of theirs
    pub quiet : (d j : ℕ) → wants D es k name d ≡ true → since ≤ j → j < until → owner_at D es j ≡ d → update_at D es j ≡ none
    quiet d j w a b =
        A.unchanged d j w b (omega (arith, in_order_lem D es 0 0 (from_first D es P) since j (omega arith) a (omega (arith, A.in_list))))

    pub kept : (d m n : ℕ) → wants D es k name d ≡ true → d < m → since ≤ m → m ≤ n → n ≤ until → data_at D es d n ≡ data_at D es d m
    kept d m n w l a b h = data_kept D es d m n l b (λ j i c. quiet d j w (omega arith) (omega arith))

    -- nor one lately
    not-updated : (d m type : ℕ) → wants D es k name d ≡ true → since ≤ m → m ≤ until → JustUpdated D es d k type m → ⊥
    not-updated d m type w a b u =
        clash
        (let z : none ≡ some u.update =
        sym
        (A.unchanged d u.at w (omega (arith, u.before)) (u.soon since a (omega (arith, A.non_empty, A.in_list))) u.whose) ∙ u.takes
        in
        cc)

    -- two that want the name have one name
    pub one_name :
        (d e m n : ℕ) (s t : Setup) → wants D es k name d ≡ true → wants D es k name e ≡ true → data_at D es d m ≡ some s → data_at D es e n ≡ some t
        → D.same_name (D.name s k) (D.name t k) ≡ true
    one_name d e m n s t v w p q =
        C.name_trans (D.name s k) name (D.name t k) (L.name_sym name (D.name s k) (wanted_name D R L es k name d m s v p))
        (wanted_name D R L es k name e n t w q)

    pub just_one_lem :
        (d e m : ℕ) (s t : Setup) → wants D es k name d ≡ true → wants D es k name e ≡ true → since ≤ m → m ≤ until → data_at D es d m ≡ some s
        → data_at D es e m ≡ some t → Differ D s t k → holds D es d k m ≡ true → holds D es e k m ≡ true → ⊥
    just_one_lem d e m s t v w a b p q f g h =
        ⊎_elim (λ u. not-updated d m f.type v a b u) (λ u. not-updated e m f.type w a b u)
        (unique D R L es P m (omega (arith, A.in_list)) both)
      where
        two : d ≢ e
        two z =
            let y : some s ≡ some t = sym p ∙ ap (λ (i : ℕ). data_at D es i m) z ∙ q in
            let x : s ≡ t = cc in
            let u : some f.one_data ≡ some f.other_data = sym f.one_carries ∙ ap (λ (r : Setup). D.rdata r k f.type) x ∙ f.other_carries in
            f.different (cc)

        both : TwoHolders D es m
        both =
            record {
              one = record { responder = d; setup = s; has = p; claim = k; holding = g };
              other = record { responder = e; setup = t; has = q; claim = k; holding = h };
              two = two;
              same_name = one_name d e m m s t v w p q;
              type = f.type;
              one_data = f.one_data;
              other_data = f.other_data;
              one_carries = f.one_carries;
              other_carries = f.other_carries;
              different = f.different;
            }

    -- the sender of a conflicting response wants the name, and is another
    module _ (d n : ℕ) (v : wants D es k name d ≡ true) (w : FromList D es since n) (S : Sender D R L es k T C d since n w) where
      abbrev pub from : ℕ
      from = owner_at D es w.at

      pub sender_wants : wants D es k name from ≡ true
      sender_wants =
          wants_it D R L es k name from (suc w.at) S.theirs S.left-with
          (C.name_trans name (D.name S.mine k) (D.name S.theirs k) (wanted_name D R L es k name d n S.mine v S.has)
          (L.name_sym (D.name S.theirs k) (D.name S.mine k) S.contradicts.same))

      pub sender_data : n ≤ until → data_at D es from n ≡ some S.theirs
      sender_data h = kept from (suc w.at) n sender_wants (omega (arith, S.started)) (omega (arith, w.since_then)) w.before h ∙ S.left-with

    -- a holder that hears a conflicting response would not be the only one
    contradicted :
        (d n : ℕ) → wants D es k name d ≡ true → since ≤ n → n < until → holds D es d k n ≡ true
        → ((e m : ℕ) → wants D es k name e ≡ true → since ≤ m → m ≤ n → holds D es e k m ≡ true → holds D es e k n ≡ true)
        → hears D es d (λ s. conflicts_with D s k) n ≡ true → ⊥
    contradicted d n v a b h so_far c =
        just_one_lem (from d n v w S) d n S.theirs S.mine (sender_wants d n v w S) v a (omega arith) (sender_data d n v w S (omega arith)) S.has
        S.contradicts.differ
        (so_far (from d n v w S) (suc w.at) (sender_wants d n v w S) (omega (arith, w.since_then)) w.before S.holding) h
      where
        w : FromList D es since n
        w = A.from_list d n v a b c

        S : Sender D R L es k T C d since n w
        S = sender_of D R L es k T C d since n w c

    pub keeps :
        (n : ℕ) → n ≤ until → (d m : ℕ) → wants D es k name d ≡ true → since ≤ m → m ≤ n → holds D es d k m ≡ true → holds D es d k n ≡ true
    unfolding holds
    keeps zero l d m v a b h = let e : m ≡ zero = omega arith in subst (λ (i : ℕ). holds D es d k i ≡ true) e h
    keeps (suc n) l d m v a b h = go (dec_le m n) (keeps n (omega arith))
      where
        stays :
            since ≤ n → holds D es d k n ≡ true
            → ((e j : ℕ) → wants D es k name e ≡ true → since ≤ j → j ≤ n → holds D es e k j ≡ true → holds D es e k n ≡ true)
            → holds D es d k (suc n) ≡ true
        stays s held so_far = ask (hears D es d (λ r. conflicts_with D r k) n) refl
          where
            ask : (c : Bool) → hears D es d (λ r. conflicts_with D r k) n ≡ c
                → (runs D es d (suc n) && (writes D es d k n || (not c && holds D es d k n))) ≡ true
            ask true e = absurd (contradicted d n v s l held so_far e)
            ask false e =
                and_both (runs D es d (suc n)) (writes D es d k n || holds D es d k n) (A.running d n v s l (holder-runs D es d k n held))
                (or_right (writes D es d k n) (holds D es d k n) held)

        go : Dec (m ≤ n) → ((e j : ℕ) → wants D es k name e ≡ true → since ≤ j → j ≤ n → holds D es e k j ≡ true → holds D es e k n ≡ true)
            → holds D es d k (suc n) ≡ true
        go (yes c) so_far = stays (omega arith) (so_far d m v a c h) so_far
        go (no c) so_far = let e : m ≡ suc n = omega arith in subst (λ (i : ℕ). holds D es d k i ≡ true) e h
