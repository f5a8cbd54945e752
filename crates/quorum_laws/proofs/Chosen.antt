-- What is known of accepted values in every run.
use Rattle.law_names.proofs.Runs.{AllFit, Event, Monitors, World, first_world, run}
use Rattle.law_names.proofs.Table.{Erase, Op, Phase, State, has, is_majority, text, transaction_in}
use Rattle.mon_wire.specs.declared.phase.Phase.TheVariants as phase
use Rattle.quorum_history.proofs.History as history
use Rattle.quorum_history.proofs.History.{APromise}
use Rattle.quorum_history.proofs.Holds as holds
use Rattle.quorum_history.proofs.Holds.{AllIn, Core, Heard, InPhase, LeadsIn, Nowhere, UpdatesIn, core_of, epoch_in}
use Rattle.quorum_history.proofs.Phases.{no}
use Rattle.quorum_laws.proofs.Beginning.{at_first}
use Rattle.quorum_laws.proofs.Events.{both_runs}
use Rattle.quorum_laws.proofs.Invariant.{InvOf}
use Rattle.quorum_laws.proofs.Later.{Later}
use Rattle.quorum_laws.proofs.Reading.{accepted_as, as_accepted, at_least, state_holds}
use Rattle.quorum_laws.specs.Accepting.{HasAccepted, IsMajorityOf, readings_at}
use Rattle.quorum_laws.specs.Values.{AcceptedNothing, HasBlocker, IsChosen, KnowsOlder, LeadersKnow, LeavesNoRoom, OneValue, ProposesNew, Repeats, has_heard}
use Rattle.quorum_walk.proofs.Ranks.{Below, majorities, within_at}
use Rattle.quorum_walk.proofs.Sparing.{own_of}
use Rattle.std.proofs.Common.{Bool, List, None, Option, Some, [], ap, arith, false, inl, inr, length, refl, subst, suc, sym, true, ℕ, ◌++◌, ◌<◌, ◌∙◌, ◌∷◌, ◌≡◌, ◌≤◌, ◌⊎◌}
use Rattle.std.proofs.lemmas.Bool.{cases_order, false≢true}
use Rattle.std.proofs.lemmas.Slice.Eq.{bytes_eq-Decides}
use Rattle.std.specs.Str.{bytes_eq}

-- some changes that aren't these
abbrev other_than : List Op → List Op
other_than x = Erase [] [] ∷ x

is_other : (x : List Op) → other_than x ≡ x → ⊥
is_other x e = let l = ap length e in omega arith

same_bytes : (xs ys : List ℕ) → (xs ≡ ys) ⊎ (xs ≡ ys → ⊥)
same_bytes xs ys = by (bytes_eq xs ys) refl
  where
    by : (b : Bool) → bytes_eq xs ys ≡ b → (xs ≡ ys) ⊎ (xs ≡ ys → ⊥)
    by true e = inl ((bytes_eq-Decides xs ys).0 e)
    by false e = inr (λ q. false≢true (sym e ∙ (bytes_eq-Decides xs ys).1 q))

module _ (ms : Monitors) (w : World) (I : InvOf ms w) where
  pub one_value : OneValue w
  one_value i j v pn bytes other a b =
      let k = accepted_as ms w I i v pn bytes a in
      let l = accepted_as ms w I j v pn other b in
      k.1 ∙ ap text (I.glob.triples.one i j v pn k.0 l.0 k.2 l.2) ∙ sym l.1

  -- ---- no room for another

  -- a rank that refuses some changes refuses bytes that encode no other ones
  refusing : (q : List Bool) (v lower : ℕ) (bytes : List ℕ) (y : List Op) → ((i : ℕ) (z : List Op) → history.Accepted I.g i v lower z → bytes ≡ text z → z ≡ y) → history.HasBlocker I.g.signs I.g.accepts q v lower y → HasBlocker w q v lower bytes
  refusing q v lower bytes y same R = record {
    rank = R.m;
    within = R.within;
    promised = let s = at_least ms w I APromise R.m (suc lower) R.above in omega arith;
    never = λ a. let k = accepted_as ms w I R.m v lower bytes a in R.never (subst (history.Accepted I.g R.m v lower) (same R.m k.0 k.2 k.1) k.2);
  }

  -- what was accepted and is encoded so is what the bytes encode
  encoded_by : (i v p : ℕ) (bytes : List ℕ) (z : List Op) → history.Accepted I.g i v p z → bytes ≡ text z → transaction_in (Some bytes) ≡ Some z
  encoded_by i v p bytes z a e = ap (λ (b : List ℕ). transaction_in (Some b)) e ∙ (I.glob.triples.fine i v p z a).reads

  no_room : (i v pn lower : ℕ) (x : List Op) (other : List ℕ) (q : List Bool) → history.Accepted I.g i v pn x → lower < pn → (other ≡ text x → ⊥) → is_majority ms.count q ≡ true → Below ms.count q → HasBlocker w q v lower other
  no_room i v pn lower x other q a lt ne major below = by (transaction_in (Some other)) refl
    where
      refuses : (y : List Op) → (y ≡ x → ⊥) → history.HasBlocker I.g.signs I.g.accepts q v lower y
      refuses y differs = I.glob.triples.safe i v pn lower x y q a lt differs major below

      -- bytes that nobody accepted
      unknown : ((j : ℕ) (z : List Op) → history.Accepted I.g j v lower z → other ≡ text z → ⊥) → HasBlocker w q v lower other
      unknown none = refusing q v lower other (other_than x) (λ j z b e. absurd (none j z b e)) (refuses (other_than x) (is_other x))

      encodes : (y : List Op) → transaction_in (Some other) ≡ Some y → (other ≡ text y) ⊎ (other ≡ text y → ⊥) → HasBlocker w q v lower other
      encodes y t (inl e) = refusing q v lower other y (λ j z b f. let s : Some z ≡ Some y = sym (encoded_by j v lower other z b f) ∙ t in let r : z ≡ y = cc in r) (refuses y (λ d. ne (e ∙ ap text d)))
      encodes y t (inr no_text) = unknown (λ j z b f. let s : Some z ≡ Some y = sym (encoded_by j v lower other z b f) ∙ t in let r : z ≡ y = cc in no_text (f ∙ ap text r))

      by : (r : Option (List Op)) → transaction_in (Some other) ≡ r → HasBlocker w q v lower other
      by None t = unknown (λ j z b f. let s : Some z ≡ None = sym (encoded_by j v lower other z b f) ∙ t in absurd cc)
      by (Some y) t = encodes y t (same_bytes other (text y))

  pub leaves_no_room : LeavesNoRoom ms.count w
  leaves_no_room i v pn lower bytes other q a lt ne Q =
      let k = accepted_as ms w I i v pn bytes a in no_room i v pn lower k.0 other q k.2 lt (λ e. ne (e ∙ sym k.1)) Q.major Q.below

  -- ---- what is chosen

  lower_chosen : (v : ℕ) (bytes other : List ℕ) (a : IsChosen ms.count w v bytes) (b : IsChosen ms.count w v other) → a.pn < b.pn → (bytes ≡ other) ⊎ (bytes ≡ other → ⊥) → bytes ≡ other
  lower_chosen v bytes other a b lt (inl e) = e
  lower_chosen v bytes other a b lt (inr ne) =
      let s = majorities ms.count b.by b.by b.major.major b.major.major b.major.below b.major.below in
      let r = leaves_no_room s.0 v b.pn a.pn other bytes a.by (b.all s.0 s.1) lt ne a.major in
      absurd (r.never (a.all r.rank r.within))

  pub chosen_once : (v : ℕ) (bytes other : List ℕ) → IsChosen ms.count w v bytes → IsChosen ms.count w v other → bytes ≡ other
  chosen_once v bytes other a b = by (cases_order a.pn b.pn)
    where
      by : (a.pn ≡ b.pn) ⊎ ((a.pn < b.pn) ⊎ (b.pn < a.pn)) → bytes ≡ other
      by (inl e) =
          let s = majorities ms.count a.by b.by a.major.major b.major.major a.major.below b.major.below in
          one_value s.0 s.0 v b.pn bytes other (subst (λ (p : ℕ). HasAccepted w s.0 v p bytes) e (a.all s.0 s.1)) (b.all s.0 s.2)
      by (inr (inl lt)) = lower_chosen v bytes other a b lt (same_bytes bytes other)
      by (inr (inr lt)) = sym (lower_chosen v other bytes b a lt (same_bytes other bytes))

  -- ---- leaders

  module _ (i : ℕ) (s : State) where
    abbrev c : Core
    c = core_of (own_of (readings_at w i)) s

    -- what a leader heard of all of its quorum
    heard : (L : ℕ → ℕ → Type 0) → LeadsIn I.g i c L → AllIn ms.count c → (f : ℕ) → has c.quorum f ≡ true → Heard I.g i (epoch_in c.own) c.pn c.own.last L f
    heard L k all f m = k.heard f (within_at ms.count c.quorum c.answered f all (I.glob.roles.within i (epoch_in c.own) i c.quorum k.reigns.role f m) m)

    knows : (L : ℕ → ℕ → Type 0) → LeadsIn I.g i c L → AllIn ms.count c → ((v r : ℕ) → L v r → (v ≤ (readings_at w i).last) ⊎ Repeats w s (readings_at w i).last v r) → KnowsOlder w i s
    knows L k all left = record {
      promised = λ f m. at_least ms w I APromise f s.leader.pn (heard L k all f m).promised;
      covered = λ f v r bytes m a lt. let t = accepted_as ms w I f v r bytes a in elim ((heard L k all f m).covers v r t.0 t.2 lt) [ inl e ↦ inl e | inr l ↦ left v r l ];
    }

    repeats : s.phase ≡ phase.Previous → (v r : ℕ) → holds.Repeats I.g c.quorum c.pn c.own.last c.value v r → Repeats w s (readings_at w i).last v r
    repeats e v r k = record { phase = e; next = k.next; value = k.x; proposes = k.is; by = k.by; member = k.member; number = k.number; high = k.high; low = k.low; accepted = as_accepted ms w I k.by (suc (readings_at w i).last) k.number k.x k.was }

    in_phase_knows : (p : Phase) → s.phase ≡ p → has_heard p ≡ true → InPhase ms.count I.g i c p → KnowsOlder w i s
    in_phase_knows phase.Previous e t k = knows _ k.0 k.1 (λ v r l. inr (repeats e v r l))
    in_phase_knows phase.Active e t k = knows Nowhere k.0 k.1 (λ v r l. absurd l)
    in_phase_knows phase.Updating e t k = knows Nowhere k.0 k.1 (λ v r l. absurd l)
    in_phase_knows other e t k = no t

  pub leaders_know : LeadersKnow w
  leaders_know i s up t = in_phase_knows i s s.phase refl t (state_holds ms w I i s up)

  -- ---- new values

  -- who is updating heard of nothing that is left
  pub nothing_lower : (i : ℕ) (s : State) (lower : ℕ) (q : List Bool) → w.state i ≡ Some s → s.phase ≡ phase.Updating → lower < s.leader.pn → IsMajorityOf ms.count q → AcceptedNothing w q (suc (readings_at w i).last) lower
  nothing_lower i s lower q up e lt Q =
      let R = I.glob.roles in
      let k : UpdatesIn ms.count I.g i (c i s) = subst (InPhase ms.count I.g i (c i s)) e (state_holds ms w I i s up) in
      let role = k.0.reigns.role in
      let m = majorities ms.count s.leader.quorum q (R.major i (epoch_in (c i s).own) i s.leader.quorum role) Q.major (R.within i (epoch_in (c i s).own) i s.leader.quorum role) Q.below in
      let h = heard i s Nowhere k.0 k.1 m.0 m.1 in
      record {
        rank = m.0;
        within = m.2;
        promised = let p = at_least ms w I APromise m.0 s.leader.pn h.promised in omega arith;
        never = λ bytes a.
            let t = accepted_as ms w I m.0 (suc (readings_at w i).last) lower bytes a in
            elim (h.covers (suc (readings_at w i).last) lower t.0 t.2 lt) [ inl le ↦ (let s : suc (readings_at w i).last ≤ (readings_at w i).last = le in omega arith) | inr l ↦ l ];
      }

pub stays_nothing : (w next : World) → Later w next → (q : List Bool) (v lower : ℕ) → AcceptedNothing w q v lower → AcceptedNothing next q v lower
stays_nothing w next L q v lower k = record {
  rank = k.rank;
  within = k.within;
  promised = let p = (L.each k.rank).promise in let s = k.promised in omega arith;
  never = λ bytes a. elim (L.since k.rank v lower bytes a) [ inl old ↦ k.never bytes old | inr le ↦ (let s = k.promised in omega arith) ];
}

pub proposes_new : (ms : Monitors) (before after : List Event) → AllFit ms.count (before ++ after) → ProposesNew ms.count (run ms before) (run ms (before ++ after))
proposes_new ms before after F i s lower q up e lt Q =
    let B = both_runs ms first_world before after F (at_first ms) in
    stays_nothing (run ms before) (run ms (before ++ after)) B.3 q (suc (readings_at (run ms before) i).last) lower (nothing_lower ms (run ms before) B.0 i s lower q up e lt Q)
