-- Which request an answer is to, in every history that has answers.
use Rattle.law_names.proofs.Runs.{Asked, Monitors, command_of, made_by}
use Rattle.law_names.proofs.Table.{AllByRecursion, Contains, Reply, Request, Session}
use Rattle.log_model.proofs.Lists.{of_all}
use Rattle.mon_wire.specs.declared.reply.Reply.TheVariants as reply
use Rattle.mon_wire.specs.declared.request.Request.TheVariants as request
use Rattle.network_answers.specs.Answers.{Answer, IsDone, IsOfLog, IsOfThisLog, IsRefused, Requested}
use Rattle.network_answers.specs.Fates.{AreUnmade, HasUnmade}
use Rattle.network_answers.specs.History.{HaveAnswers}
use Rattle.network_answers.specs.Whose.{Answers, AsksOnce, IsCommanding, IsTo}
use Rattle.quorum_answers.specs.Refused.{IsRefusalReply}
use Rattle.quorum_commands.specs.Unmade.{AcknowledgesNone}
use Rattle.quorum_network.proofs.Assembled.{all_self}
use Rattle.quorum_network.proofs.Names.{AllMay, Step, acknowledgements, requests}
use Rattle.quorum_replies.specs.Replies.{one_of, times_asked}
use Rattle.std.proofs.Common.{List, Some, [], ap, arith, inl, inr, refl, slice_get, subst, suc, sym, zero, ℕ, ◌∙◌, ◌∷◌, ◌≡◌, ◌≤◌, ◌⊎◌}
use Rattle.std.proofs.lemmas.Bool.{eq-eqb}

-- ---- the only request of a session

one_itself : (i : ℕ) (t : Session) → one_of i t i t ≡ 1
one_itself i t = rw (eq-eqb i i refl, eq-eqb t.client t.client refl, eq-eqb t.id t.id refl) refl

one_here : (i : ℕ) (t : Session) (a : Asked) → a.rank ≡ i → a.session ≡ t → one_of i t a.rank a.session ≡ 1
one_here i t a rank session = ap (λ (j : ℕ). one_of i t j a.session) rank ∙ ap (λ (u : Session). one_of i t i u) session ∙ one_itself i t

counted : (i : ℕ) (t : Session) (xs : List Asked) (k : ℕ) (a : Asked) → slice_get xs k ≡ Some a → a.rank ≡ i → a.session ≡ t → 1 ≤ times_asked i t xs
counted i t [] k a at rank session = absurd cc
counted i t (x ∷ xs) zero a at rank session =
    let same : x ≡ a = cc in
    let one = one_here i t x (ap (λ (b : Asked). b.rank) same ∙ rank) (ap (λ (b : Asked). b.session) same ∙ session) in
    omega (arith, one)
counted i t (x ∷ xs) (suc k) a at rank session = let more = counted i t xs k a at rank session in omega (arith, more)

only_one : (i : ℕ) (t : Session) (xs : List Asked) → times_asked i t xs ≤ 1 → (j k : ℕ) (a b : Asked) → slice_get xs j ≡ Some a → slice_get xs k ≡ Some b
    → a.rank ≡ i → a.session ≡ t → b.rank ≡ i → b.session ≡ t → j ≡ k
only_one i t [] once j k a b p q ar at br bt = absurd cc
only_one i t (x ∷ xs) once zero zero a b p q ar at br bt = refl
only_one i t (x ∷ xs) once zero (suc k) a b p q ar at br bt =
    let same : x ≡ a = cc in
    let one = one_here i t x (ap (λ (c : Asked). c.rank) same ∙ ar) (ap (λ (c : Asked). c.session) same ∙ at) in
    let more = counted i t xs k b q br bt in
    absurd (omega (arith, one, more, once))
only_one i t (x ∷ xs) once (suc j) zero a b p q ar at br bt =
    let same : x ≡ b = cc in
    let one = one_here i t x (ap (λ (c : Asked). c.rank) same ∙ br) (ap (λ (c : Asked). c.session) same ∙ bt) in
    let more = counted i t xs j a p ar at in
    absurd (omega (arith, one, more, once))
only_one i t (x ∷ xs) once (suc j) (suc k) a b p q ar at br bt = ap suc (only_one i t xs (omega (arith, once)) j k a b p q ar at br bt)

index_of : (xs : List Asked) (a : Asked) → Contains xs a → (k : ℕ) × (slice_get xs k ≡ Some a)
index_of [] a (k, lt, e) = absurd (omega (arith, lt))
index_of (x ∷ xs) a (zero, lt, e) = (0, ap (λ (y : Asked). Some y) e)
index_of (x ∷ xs) a (suc k, lt, e) = let found = index_of xs a (k, omega (arith, lt), e) in (suc found.0, found.1)

-- ---- an answer

module _ (asks : List Asked) (i : ℕ) (t : Session) (once : AsksOnce asks i t) where
  record Found : Type 0 where
    k : ℕ
    by : Asked
    at : slice_get asks k ≡ Some by
    rank : by.rank ≡ i
    session : by.session ≡ t

  found_by : (r : Request) → Requested asks i t r → Found
  found_by r c =
      let found = index_of asks (record { rank = i; session = t; request = r }) c in
      record { k = found.0; by = record { rank = i; session = t; request = r }; at = found.1; rank = refl; session = refl }

  -- whatever else is known to have been asked is that request
  same_request : (F : Found) (r : Request) → Requested asks i t r → F.by.request ≡ r
  same_request F r c =
      let found = index_of asks (record { rank = i; session = t; request = r }) c in
      let same = only_one i t asks once F.k found.0 F.by (record { rank = i; session = t; request = r }) F.at found.1 F.rank F.session refl refl in
      let both : Some F.by ≡ Some (record { rank = i; session = t; request = r }) = sym F.at ∙ ap (λ (j : ℕ). slice_get asks j) same ∙ found.1 in
      let one : F.by ≡ record { rank = i; session = t; request = r } = cc in
      ap (λ (a : Asked). a.request) one

done_or_none : (r : Reply) → ((v : ℕ) × (r ≡ reply.Done v)) ⊎ AcknowledgesNone r
done_or_none (reply.Done v) = inl (v, refl)
done_or_none other = inr tt

module _ (ms : Monitors) (H : HaveAnswers ms) (steps : List Step) (may : AllMay ms steps) where
  abbrev asks : List Asked
  asks = requests ms steps

  abbrev log : List (List ℕ)
  log = H.log steps may

  abbrev U : AreUnmade ms.count asks log (H.answers steps may)
  U = H.unmade steps may

  abbrev Refused : Answer → Type 0
  Refused a = IsRefusalReply a.reply → IsRefused asks asks (acknowledgements ms steps) log a

  module _ (a : Answer) (among : Contains (H.answers steps may) a) (once : AsksOnce asks a.rank a.session) where
    of_log : IsOfLog asks (acknowledgements ms steps) log a.rank a.session a.last a.reply
    of_log = let k = of_all (IsOfThisLog asks (acknowledgements ms steps) log) (H.answers steps may) (H.of_log steps may) a among in k.of_log

    done : (v : ℕ) → a.reply ≡ reply.Done v → IsDone asks (acknowledgements ms steps) log a.rank a.session v
    done v e = subst (IsOfLog asks (acknowledgements ms steps) log a.rank a.session a.last) e of_log

    unmade : AcknowledgesNone a.reply → HasUnmade asks log U.request a
    unmade none = of_all (λ (b : Answer). AcknowledgesNone b.reply → HasUnmade asks log U.request b) (H.answers steps may) U.refused a among none

    found : Found asks a.rank a.session once
    found = elim (done_or_none a.reply) [
      | inl d ↦ let D = done d.0 d.1 in found_by asks a.rank a.session once D.request D.requested
      | inr none ↦ let x = unmade none in record { k = x.k; by = x.by; at = x.at; rank = x.rank; session = x.session }
    ]

    refused : Refused a
    refused = let G = H.goes_on [] steps may in of_all Refused (H.answers steps may) G.refusals a among

    commanding : IsRefusalReply a.reply → IsCommanding found.by.request
    commanding says =
        let x = refused says in
        (x.command, subst (λ (r : Request). command_of r ≡ Some x.command) (sym (same_request asks a.rank a.session once found x.request x.requested)) x.is)

    answers : (q : Reply) → a.reply ≡ q → IsOfLog asks (acknowledgements ms steps) log a.rank a.session a.last q → Answers log a.rank found.by.request q
    answers (reply.Done v) e D = record {
      service = D.acknowledgement.service;
      incremental = D.acknowledgement.incremental;
      asks = subst (λ (r : Request). made_by a.rank r ≡ Some (D.acknowledgement.service, D.acknowledgement.incremental)) (sym (same_request asks a.rank a.session once found D.request D.requested)) D.made;
      put = D.put;
    }
    answers (reply.Shown s paxos version map) e (last, same, versions, inl c) = inl (same_request asks a.rank a.session once found (request.Show s) c)
    answers (reply.Shown s paxos version map) e (last, same, versions, inr (v, c)) = inr (v, same_request asks a.rank a.session once found (request.Since s v) c)
    answers (reply.Since s from told more) e (after, next, c) = same_request asks a.rank a.session once found (request.Since s from) c
    answers reply.NoSuch e k = commanding (subst IsRefusalReply (sym e) tt)
    answers (reply.TooLong len most) e k = commanding (subst IsRefusalReply (sym e) tt)
    answers (reply.MapFull would_be) e k = commanding (subst IsRefusalReply (sym e) tt)
    answers other e k = tt

    is_to : IsTo asks log U.request a
    is_to = record {
      k = found.k;
      by = found.by;
      at = found.at;
      rank = found.rank;
      session = found.session;
      only = λ j other at rank session. only_one a.rank a.session asks once j found.k other found.by at found.at rank session found.rank found.session;
      answers = answers a.reply refl of_log;
      unmade = λ none v within same.
          let x = unmade none in
          x.none v within (same ∙ only_one a.rank a.session asks once found.k x.k found.by x.by found.at x.at found.rank found.session x.rank x.session);
    }

  pub all_to : AllByRecursion (λ (a : Answer). AsksOnce asks a.rank a.session → IsTo asks log U.request a) (H.answers steps may)
  all_to = all_self (λ (a : Answer). AsksOnce asks a.rank a.session → IsTo asks log U.request a) (H.answers steps may) (λ a among once. is_to a among once)
