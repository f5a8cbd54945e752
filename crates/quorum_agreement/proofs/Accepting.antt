-- What an ACCEPT does: nothing, or the leader counts it, or with it all of the quorum accepted and the value is committed.
use Rattle.law_names.proofs.Table.{Body, Course, Entry, Me, Message, Op, Phase, Readings, State, Which, are_within, at_rest, be_active, commit, commit_any, epoch_of, extend, has, hear, hear_accept, is_heard, is_one_of, leader_is, learn, of_member, react, same_phase, with_rank}
use Rattle.mon_msg.specs.declared.input.Input.TheVariants as input
use Rattle.mon_types.specs.declared.names.Which.TheVariants as which
use Rattle.mon_wire.specs.declared.body.Body.TheVariants as body
use Rattle.mon_wire.specs.declared.phase.Phase.TheVariants as phase
use Rattle.quorum_history.proofs.Phases.{no}
use Rattle.quorum_walk.proofs.Walk.{Then, and_then, by_test, done, where_fits}
use Rattle.std.proofs.Common.{Err, List, None, Ok, Option, Result, Some, [], arith, eqb, false, inl, inr, not, refl, subst, suc, sym, true, ℕ, ◌&&◌, ◌+◌, ◌^◌, ◌∷◌, ◌≡◌, ◌≤◌, ◌⊎◌}
use Rattle.std.proofs.lemmas.Bool.{and_parts, eqb-true, not-false}

-- the phases in which a value is proposed
abbrev pub begun : List Phase
begun = phase.Previous ∷ phase.Updating ∷ []

pub begun_is : (p : Phase) → is_one_of begun p ≡ true → (p ≡ phase.Previous) ⊎ (p ≡ phase.Updating)
begun_is phase.Previous e = inl refl
begun_is phase.Updating e = inr refl
begun_is other e = no e

pub then_map : {A : Type 0} (P Q : A → Type 0) (r : Result A Which) → ((x : A) → P x → Q x) → Then P r → Then Q r
then_map P Q (Ok x) f k = record { holds = f x k.holds }
then_map P Q (Err e) f k = record { holds = tt }

module _ (me : Me) (now f e pn v : ℕ) (x : Course) where
  -- nothing is written and nothing is sent
  pub record Rests (y : Course) : Type 0 where
    pub changes : y.changes ≡ x.changes
    pub sends : y.out ≡ x.out

  -- the leader has its quorum's answers, and commits
  pub record Commits (y : Course) : Type 0 where
    pub in_phase : (x.state.phase ≡ phase.Previous) ⊎ (x.state.phase ≡ phase.Updating)
    pub number : pn ≡ x.state.leader.pn
    pub next : v ≡ suc x.readings.last
    pub whole : are_within me.member.monitors x.state.leader.quorum (with_rank x.state.leader.accepted f) ≡ true
    pub value : List Op
    pub is : x.state.leader.value ≡ Some value
    pub last : y.readings.last ≡ suc x.readings.last
    pub fits : suc x.readings.last ≤ 2 ^ 62

  abbrev pub RestsOrCommits : Course → Type 0
  RestsOrCommits y = Rests y ⊎ Commits y

  abbrev counted : Course
  counted = leader_is (record x.state.leader { accepted = with_rank x.state.leader.accepted f }) x

  record Raised (y : Course) : Type 0 where
    last : y.readings.last ≡ suc x.readings.last
    fits : suc x.readings.last ≤ 2 ^ 62

  raises : (value : List Op) → Then Raised (commit me now value counted)
  unfolding commit learn be_active extend
  raises value = and_then Raised Raised (learn (suc x.readings.last) (value ∷ []) counted) _
      (where_fits Raised which.Version (suc x.readings.last + 0) _ (λ le. done (record { last = omega arith; fits = omega arith })))
      (λ y k. done (record { last = k.last; fits = k.fits }))

  module _ (t : not (of_member begun f e x && eqb pn x.state.leader.pn && eqb v (suc x.readings.last)) ≡ false)
      (whole : are_within me.member.monitors x.state.leader.quorum (with_rank x.state.leader.accepted f) ≡ true) where
    commits_as : (value : List Op) → x.state.leader.value ≡ Some value → (y : Course) → Raised y → Commits y
    commits_as value q y R =
        let a = and_parts (of_member begun f e x && eqb pn x.state.leader.pn) (eqb v (suc x.readings.last)) (not-false _ t) in
        let b = and_parts (of_member begun f e x) (eqb pn x.state.leader.pn) a.0 in
        let c = and_parts (is_one_of begun x.state.phase && eqb e (epoch_of x.readings)) (has x.state.leader.quorum f) b.0 in
        let d = and_parts (is_one_of begun x.state.phase) (eqb e (epoch_of x.readings)) c.0 in
        record {
          in_phase = begun_is x.state.phase d.0;
          number = eqb-true pn x.state.leader.pn b.1;
          next = eqb-true v (suc x.readings.last) a.1;
          whole = whole;
          value = value;
          is = q;
          last = R.last;
          fits = R.fits;
        }

    commits : (o : Option (List Op)) → x.state.leader.value ≡ o → Then RestsOrCommits (commit_any me now o counted)
    commits None q = done (inl (record { changes = refl; sends = refl }))
    commits (Some value) q = then_map Raised RestsOrCommits (commit me now value counted) (λ y R. inr (commits_as value q y R)) (raises value)

  pub accept_cases : Then RestsOrCommits (hear_accept me now f e pn v x)
  unfolding hear_accept
  accept_cases =
      by_test (not (of_member begun f e x && eqb pn x.state.leader.pn && eqb v (suc x.readings.last))) (λ t. done (inl (record { changes = refl; sends = refl })))
      (λ t. by_test (are_within me.member.monitors x.state.leader.quorum (with_rank x.state.leader.accepted f)) (λ u. commits t u x.state.leader.value refl) (λ u. done (inl (record { changes = refl; sends = refl }))))

-- it arrives at a monitor that may be booting, or that doesn't hear its sender
pub accept_reacts : (me : Me) (shared : List Entry) (now : ℕ) (w : Readings) (s : State) (d : Message) (pn v : ℕ) → d.body ≡ body.Accept pn v
    → Then (RestsOrCommits me now d.from d.epoch pn v (at_rest w s)) (react me shared now w s (input.Deliver d))
unfolding react
accept_reacts me shared now w s d pn v q =
    by_test (same_phase s.phase phase.Booting) (λ _. done (inl (record { changes = refl; sends = refl })))
    (λ _. by_test (is_heard me d) (λ _. subst (λ (b : Body). Then (RestsOrCommits me now d.from d.epoch pn v (at_rest w s)) (hear me shared now d.from d.epoch b (at_rest w s))) (sym q) (accept_cases me now d.from d.epoch pn v (at_rest w s)))
    (λ _. done (inl (record { changes = refl; sends = refl }))))
